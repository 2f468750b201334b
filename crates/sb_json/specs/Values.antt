-- What a field of a JSON value is read as, or why it cannot be.
use Rattle.std.specs.Prelude.{ℕ, ◌%◌, ◌==◌, ◌&&◌, ◌||◌, Bool, not, nat_lt, nat_le, if◌then◌else◌, List, [], ◌∷◌, ◌++◌, length, map, slice_index, Option, Some, None, Result, Ok, Err}
use Rattle.std.specs.Char.{is_ascii_digit}
use Rattle.std.specs.List.{list_all, list_any}
use Rattle.std.specs.Str.{is_utf8, chars}
use Rattle.std.specs.Str.Parse.{digits_value}
use Rattle.serde_json.specs.Data.{Data, null, number, string, array, object, Items}
use Rattle.serde_json.specs.Find.{get, as_u64}
use Rattle.serde_json.specs.Read.{read}
use Rattle.base64.specs.Engines.{standard}
use Rattle.base64.specs.GeneralPurpose.{decoded_of}
use Rattle.sb_model.specs.Time.{duration_of}
use Rattle.sb_json.specs.declared.fields.Field.{Field}
use Rattle.sb_json.specs.declared.faults.FieldFault.{FieldFault}
use Rattle.sb_json.specs.declared.faults.MessageFault.{MessageFault}
use Rattle.sb_json.specs.declared.faults.MessageFault.TheVariants.{NotJson, TooDense}
use Rattle.sb_json.specs.Density.{too_dense}
use Rattle.sb_json.specs.declared.faults.FieldFault.TheVariants.{Missing, WrongKind, Number, Base64, Duration}
use Rattle.sb_json.specs.Fields.{key_of}

-- what `serde_json` reads from UTF-8
abbrev pub json_of : List ℕ → Option Data
json_of text = if is_utf8 text then read text else None

abbrev pub or_no_json : Option Data → Result Data MessageFault
or_no_json None = Err NotJson
or_no_json (Some value) = Ok value

abbrev pub unless_dense : Option ℕ → Option Data → Result Data MessageFault
unless_dense None value = or_no_json value
unless_dense (Some place) value = Err (TooDense place)

-- The value of a text, or why it has none: first of all that it is too dense, whatever its bytes are, and then that it is not JSON.
abbrev pub value_of : List ℕ → Result Data MessageFault
value_of text = unless_dense (too_dense text) (json_of text)

-- A field that is null counts as absent.
abbrev pub if_there : Data → Option Data
if_there null = None
if_there value = Some value

abbrev pub there : Option Data → Option Data
there None = None
there (Some value) = if_there value

-- the value of a field, where it is there; a value that is no object has no field
abbrev pub field_of : Field → Data → Option Data
field_of field value = there (get (key_of field) value)

infixl 10 ◌>>=◌
abbrev pub ◌>>=◌ : {A B F : Type 0} → Result A F → (A → Result B F) → Result B F
(Ok a) >>= f = f a
(Err fault) >>= f = Err fault

-- the value of a field that has to be there
abbrev pub needed_value : Field → Option Data → Result Data FieldFault
needed_value field None = Err (Missing field)
needed_value field (Some value) = Ok value

abbrev pub needed_of : Field → Data → Result Data FieldFault
needed_of field value = needed_value field (field_of field value)

-- whether a text is `0`, or digits that do not begin with 0
abbrev pub is_numeral : List ℕ → Bool
is_numeral text = list_all is_ascii_digit text && nat_lt 0 (length text) && (length text == 1 || not (slice_index text 0 == 48))

-- the number that such a text stands for
abbrev pub numeral : List ℕ → Option ℕ
numeral text = if is_numeral text then Some (digits_value 10 text) else None

-- a number that is not above `most`
abbrev pub at_most : ℕ → Option ℕ → Option ℕ
at_most most None = None
at_most most (Some n) = if nat_le n most then Some n else None

abbrev pub or_field_fault : {A : Type 0} → FieldFault → Option A → Result A FieldFault
or_field_fault fault None = Err fault
or_field_fault fault (Some a) = Ok a

abbrev pub without_cause : {A E : Type 0} → FieldFault → Result A E → Result A FieldFault
without_cause fault (Ok a) = Ok a
without_cause fault (Err cause) = Err fault

-- ---- the readings of one value

-- a whole number from 0 to `most`, as a JSON number without fraction and exponent or as a string
abbrev pub whole_in : Field → ℕ → Data → Result ℕ FieldFault
whole_in field most (number n) = or_field_fault (Number field) (at_most most (as_u64 n))
whole_in field most (string s) = or_field_fault (Number field) (at_most most (numeral s))
whole_in field most value = Err (WrongKind field)

-- the bytes of a string
abbrev pub string_in : Field → Data → Result (List ℕ) FieldFault
string_in field (string s) = Ok s
string_in field value = Err (WrongKind field)

-- the items of a list
abbrev pub items_in : Field → Data → Result Items FieldFault
items_in field (array ds) = Ok ds
items_in field value = Err (WrongKind field)

-- an object, as it stands
abbrev pub object_in : Field → Data → Result Data FieldFault
object_in field (object ms) = Ok (object ms)
object_in field value = Err (WrongKind field)

-- `-` and `_` count as `+` and `/` (RFC 4648, section 5)
abbrev pub in_standard_alphabet : ℕ → ℕ
in_standard_alphabet byte = if byte == 45 then 43 else if byte == 95 then 47 else byte

abbrev pub is_padding : ℕ → Bool
is_padding byte = byte == 61

-- Where a text has no `=` and its length leaves 2 or 3 by four, the missing `=` are added.
abbrev pub with_padding : List ℕ → List ℕ
with_padding text =
    if list_any is_padding text then text
    else if length text % 4 == 2 then text ++ 61 ∷ 61 ∷ []
    else if length text % 4 == 3 then text ++ 61 ∷ []
    else text

-- the bytes of a text in base64, of either alphabet and with or without padding, strict on the bits past the last byte (RFC 4648)
abbrev pub base64_of : List ℕ → Option (List ℕ)
base64_of text = decoded_of standard (with_padding (map in_standard_alphabet text))

-- the bytes of a string in base64
abbrev pub bytes_in : Field → Data → Result (List ℕ) FieldFault
bytes_in field value = string_in field value >>= λ s. or_field_fault (Base64 field) (base64_of s)

-- the duration of a string
abbrev pub duration_in : Field → Data → Result ℕ FieldFault
duration_in field value = string_in field value >>= λ s. without_cause (Duration field) (duration_of s)

-- ---- the readings of a field that has to be there

abbrev pub whole_of : Field → ℕ → Data → Result ℕ FieldFault
whole_of field most value = needed_of field value >>= whole_in field most

-- the bytes of a text, as they stand
abbrev pub string_of : Field → Data → Result (List ℕ) FieldFault
string_of field value = needed_of field value >>= string_in field

-- the characters of a text
abbrev pub text_chars_of : Field → Data → Result (List ℕ) FieldFault
text_chars_of field value = string_of field value >>= λ s. Ok (chars s)

abbrev pub items_of : Field → Data → Result Items FieldFault
items_of field value = needed_of field value >>= items_in field

abbrev pub object_of : Field → Data → Result Data FieldFault
object_of field value = needed_of field value >>= object_in field

abbrev pub bytes_of : Field → Data → Result (List ℕ) FieldFault
bytes_of field value = needed_of field value >>= bytes_in field

abbrev pub duration_of_field : Field → Data → Result ℕ FieldFault
duration_of_field field value = needed_of field value >>= duration_in field
