-- What is written of a field: a member, or nothing.
use Rattle.std.specs.Prelude.{ℕ, ◌==◌, if◌then◌else◌, List, [], ◌∷◌, map, Option, Some, None, decimal, encode_utf8_all}
use Rattle.serde_json.specs.Data.{Data, string, number, array, object, unsigned, Members, no_members, member, put}
use Rattle.serde_json.specs.View.{items_of}
use Rattle.base64.specs.Engines.{standard}
use Rattle.base64.specs.GeneralPurpose.{encode_of}
use Rattle.sb_json.specs.Fields.{key_of}
use Rattle.sb_json.specs.declared.fields.Field.{Field}
use Rattle.sb_model.specs.Time.{duration_text}

-- members with one more, at its place in the byte order, where there is something to write
abbrev pub with_member_if_any : Field → Option Data → Members → Members
with_member_if_any name None members = members
with_member_if_any name (Some value) members = put (key_of name) value members

-- ---- what is left out: empty texts, bytes and lists, zero numbers and durations, and objects that are bare

abbrev pub text_written : List ℕ → Option Data
text_written [] = None
text_written (c ∷ cs) = Some (string (encode_utf8_all (c ∷ cs)))

abbrev pub bytes_written : List ℕ → Option Data
bytes_written [] = None
bytes_written (b ∷ bs) = Some (string (encode_of standard (b ∷ bs)))

abbrev pub number_written : ℕ → Option Data
number_written n = if n == 0 then None else Some (number (unsigned n))

-- a number of 64 bits is a string
abbrev pub long_written : ℕ → Option Data
long_written n = if n == 0 then None else Some (string (decimal n))

abbrev pub duration_written : ℕ → Option Data
duration_written nanos = if nanos == 0 then None else Some (string (duration_text nanos))

abbrev pub values_written : List Data → Option Data
values_written [] = None
values_written (d ∷ ds) = Some (array (items_of (d ∷ ds)))

abbrev pub list_written : {A : Type 0} → (A → Data) → List A → Option Data
list_written write xs = values_written (map write xs)

abbrev pub unless_bare : Members → Option Data
unless_bare no_members = None
unless_bare (member key value members) = Some (object (member key value members))
