-- The fields that the reader gives, as the definitions have them.
use Rattle.proto_wire.specs.declared.fields.Field.{Field}
use Rattle.proto_wire.specs.declared.fields.FieldValue.{FieldValue}
use Rattle.proto_wire.specs.declared.fields.FieldValue.TheVariants.{Varint, Fixed64, Bytes, Fixed32}
use Rattle.proto_wire.specs.Wire.{WireValue, VarintValue, Fixed64Value, BytesValue, Fixed32Value, WireField}

-- the value that is given
abbrev pub given_value : FieldValue → WireValue
given_value (Varint number) = VarintValue number
given_value (Fixed64 number) = Fixed64Value number
given_value (Bytes bytes) = BytesValue bytes.now
given_value (Fixed32 number) = Fixed32Value number

-- the field that is given
abbrev pub given_field : Field → WireField
given_field field = record { number = field.number; value = given_value field.value }
