-- The fields of a head: the values that stand under a name, and what they say of the length of the body and of its type
-- (RFC 9110, sections 5, 8.3 and 8.6).
use Rattle.std.specs.Prelude.{ℕ, ◌-◌, ◌^◌, ◌&&◌, nat_lt, min, List, [], ◌∷◌, length, map, codes, Bool, if◌then◌else◌, Option, Some, None}
use Rattle.std.specs.List.{list_all, filter_map}
use Rattle.std.specs.Char.{is_ascii_digit}
use Rattle.std.specs.Str.{str_eq_ignore_ascii_case}
use Rattle.std.specs.Str.Parse.{digits_value}
use Rattle.httparse.specs.Grammar.{Field}
use Rattle.httparse.specs.Spans.{name_and_value, header_bytes}
use Rattle.httparse.specs.declared.spans.HeaderSpan.{HeaderSpan}
use Rattle.http_edge.specs.declared.fields.BodyLength.{BodyLength}
use Rattle.http_edge.specs.declared.fields.BodyLength.TheVariants.{Unsaid, Malformed, Said}

-- the value of a field, where its name is the given one but for case
abbrev pub value_if_named : List ℕ → List ℕ × List ℕ → Option (List ℕ)
value_if_named name field = if str_eq_ignore_ascii_case field.0 name then Some field.1 else None

-- the values under a name, of fields that are given by their names and values
abbrev pub values_in : List ℕ → List (List ℕ × List ℕ) → List (List ℕ)
values_in name fields = filter_map (value_if_named name) fields

-- the values of the fields of that name, in their order, without the white space around them
abbrev pub field_values_of : List ℕ → List Field → List (List ℕ)
field_values_of name fields = values_in name (map name_and_value fields)

-- a number that is past the greatest u64 counts as that one
abbrev pub capped : ℕ → ℕ
capped n = min n (2 ^ 64 - 1)

-- one or more decimal digits
abbrev pub is_number : List ℕ → Bool
is_number value = nat_lt 0 (length value) && list_all is_ascii_digit value

abbrev pub number_said : List ℕ → BodyLength
number_said value = if is_number value then Said (capped (digits_value 10 value)) else Malformed

-- what the values of `Content-Length` say: there is none, one that is a number, or something else
abbrev pub length_in : List (List ℕ) → BodyLength
length_in [] = Unsaid
length_in (value ∷ []) = number_said value
length_in (value ∷ next ∷ values) = Malformed

abbrev pub length_said : List Field → BodyLength
length_said fields = length_in (field_values_of (codes "content-length") fields)

-- the one value of `Content-Type` (RFC 9110, section 8.3); no bytes if there is none, or several
abbrev pub content_type_in : List (List ℕ) → List ℕ
content_type_in [] = []
content_type_in (value ∷ []) = value
content_type_in (value ∷ next ∷ values) = []

abbrev pub content_type_said : List Field → List ℕ
content_type_said fields = content_type_in (field_values_of (codes "content-type") fields)

abbrev pub encodings_said : List Field → List (List ℕ)
encodings_said fields = field_values_of (codes "transfer-encoding") fields

-- the values under a name, of fields that lie at these places of a buffer
abbrev pub values_at : List ℕ → List HeaderSpan → List ℕ → List (List ℕ)
values_at buffer fields name = values_in name (map (header_bytes buffer) fields)
