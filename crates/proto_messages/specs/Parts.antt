-- The part of a message that the reader looks at, as the definitions have it.
use Rattle.std.specs.Prelude.{ℕ, List, Option, Some, None}
use Rattle.proto_wire.specs.Wire.{WireField}
use Rattle.proto_wire.specs.Reading.{wire_fields}
use Rattle.proto_messages.specs.declared.part.Part.{Part}
use Rattle.proto_messages.specs.Fields.{fields_within}

-- the fields of bytes, or of the message that stands in them under a number
abbrev pub fields_under : Option ℕ → List WireField → List WireField
fields_under None fields = fields
fields_under (Some number) fields = fields_within number fields

-- the fields of a part
unfoldable pub fields_of_part : Part → List WireField
fields_of_part part = fields_under part.under (wire_fields part.bytes.now).items
