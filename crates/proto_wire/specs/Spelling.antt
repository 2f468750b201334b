-- How the writer spells numbers and fields: each varint in as few bytes as it takes.
use Rattle.std.specs.Prelude.{ℕ, zero, suc, ◌+◌, ◌*◌, ◌/◌, ◌%◌, ◌^◌, ◌<◌, List, [], ◌∷◌, ◌++◌, length, nat_lt, if◌then◌else◌}
use Rattle.std.specs.Int.{w32, w64, to_le_bytes}
use Rattle.std.specs.List.{AllByRecursion, flat_map}
use Rattle.proto_wire.specs.Wire.{WireValue, VarintValue, Fixed64Value, BytesValue, Fixed32Value, WireField, wire_type, IsFieldNumber}

-- a number in one byte, and before it one byte for each seven bits that it has more; of these at most so many
abbrev pub sevens_of : ℕ → ℕ → List ℕ
sevens_of zero number = number ∷ []
sevens_of (suc more) number =
    if nat_lt number 128 then number ∷ [] else (number % 128 + 128) ∷ sevens_of more (number / 128)

-- the shortest spelling of a number as a varint
unfoldable pub shortest_varint : ℕ → List ℕ
shortest_varint number = sevens_of 9 number

-- the key of a field
abbrev pub written_key : ℕ → ℕ → List ℕ
written_key number type = shortest_varint (8 * number + type)

-- what stands before the bytes of a field: its key, and how many bytes follow
abbrev pub written_opening : ℕ → ℕ → List ℕ
written_opening number count = written_key number 2 ++ shortest_varint count

-- the spelling of a value
abbrev pub written_value : WireValue → List ℕ
written_value (VarintValue number) = shortest_varint number
written_value (Fixed64Value number) = to_le_bytes w64 number
written_value (BytesValue bytes) = shortest_varint (length bytes) ++ bytes
written_value (Fixed32Value number) = to_le_bytes w32 number

-- the spelling of a field
unfoldable pub written_field : WireField → List ℕ
written_field field = written_key field.number (wire_type field.value) ++ written_value field.value

-- the spellings of fields, one after the other
abbrev pub written_fields : List WireField → List ℕ
written_fields fields = flat_map written_field fields

-- a value that has a spelling
abbrev pub HasSpelling : WireValue → Type 0
HasSpelling (VarintValue number) = number < 2 ^ 64
HasSpelling (Fixed64Value number) = number < 2 ^ 64
HasSpelling (BytesValue bytes) = length bytes < 2 ^ 64
HasSpelling (Fixed32Value number) = number < 2 ^ 32

-- fields that have spellings
abbrev pub AreWritable : List WireField → Type 0
AreWritable fields = AllByRecursion (λ field. IsFieldNumber field.number × HasSpelling field.value) fields
