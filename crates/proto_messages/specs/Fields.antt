-- How the fields of a message are found among those of its bytes
-- (https://protobuf.dev/programming-guides/encoding: "Last One Wins" and "Repeated Elements").
use Rattle.std.specs.Prelude.{ℕ, nat_eq, if◌then◌else◌, List, [], ◌∷◌, ◌++◌, Option, Some, None, Result, Ok, Err}
use Rattle.std.specs.List.{flat_map}
use Rattle.proto_wire.specs.declared.fault.WireFault.{WireFault}
use Rattle.proto_wire.specs.Wire.{WireValue, VarintValue, Fixed64Value, BytesValue, Fixed32Value, WireField}
use Rattle.proto_wire.specs.Reading.{wire_fields, packed_varints}
use Rattle.sb_json.specs.Values.{◌>>=◌}
use Rattle.sb_json.specs.declared.fields.Field.{Field}
use Rattle.sb_json.specs.declared.faults.FieldFault.TheVariants.{WrongKind}
use Rattle.proto_messages.specs.declared.fault.PartFault.{PartFault}
use Rattle.proto_messages.specs.declared.fault.PartFault.TheVariants as part
use Rattle.proto_messages.specs.declared.fault.ProtoFault.{ProtoFault}
use Rattle.proto_messages.specs.declared.fault.ProtoFault.TheVariants as message

-- a fault of a part in an item, and want of memory as it is
abbrev pub part_fault_in_item : PartFault → ℕ → ProtoFault
part_fault_in_item part.OutOfMemory item = message.OutOfMemory
part_fault_in_item fault item = message.Part fault item

-- the values of the fields that have a number, in order
abbrev pub field_values_at : ℕ → List WireField → List WireValue
field_values_at number [] = []
field_values_at number (field ∷ fields) = if nat_eq field.number number then field.value ∷ field_values_at number fields else field_values_at number fields

-- the fields of the message that a value is
abbrev pub fields_in : WireValue → List WireField
fields_in (VarintValue number) = []
fields_in (Fixed64Value number) = []
fields_in (BytesValue bytes) = (wire_fields bytes).items
fields_in (Fixed32Value number) = []

-- The fields of a message that stands in another. One that stands there more than once is merged: its fields are those of each time,
-- one after the other.
abbrev pub fields_within : ℕ → List WireField → List WireField
fields_within number fields = flat_map fields_in (field_values_at number fields)

-- what is read of each value, in order, or the first fault
abbrev pub each : {A : Type 0} → (WireValue → Result A PartFault) → List WireValue → Result (List A) PartFault
each row [] = Ok []
each row (value ∷ values) = row value >>= λ a. each row values >>= λ more. Ok (a ∷ more)

-- the last of a list, or this one if there is none
abbrev pub last_or : {A : Type 0} → A → List A → A
last_or a [] = a
last_or a (b ∷ more) = last_or b more

-- these, and then those that are read, or the fault
abbrev pub after : {A F : Type 0} → List A → Result (List A) F → Result (List A) F
after before (Ok more) = Ok (before ++ more)
after before (Err fault) = Err fault

-- what is read of each value, one after the other, or the first fault
abbrev pub joined_values : {A : Type 0} → (WireValue → Result (List A) PartFault) → List WireValue → Result (List A) PartFault
joined_values row [] = Ok []
joined_values row (value ∷ values) = row value >>= λ list. after list (joined_values row values)

-- all items, if the reading of a field's bytes ends without a fault
abbrev pub whole : {A : Type 0} → Field → List A → Option WireFault → Result (List A) PartFault
whole field items None = Ok items
whole field items (Some fault) = Err (part.Wire field fault)

-- the fields that the bytes of a field are
abbrev pub fields_of : Field → List ℕ → Result (List WireField) PartFault
fields_of field bytes = whole field (wire_fields bytes).items (wire_fields bytes).fault

-- the numbers that the bytes of a packed field are
abbrev pub packed_of : Field → List ℕ → Result (List ℕ) PartFault
packed_of field bytes = whole field (packed_varints bytes).items (packed_varints bytes).fault

-- a value that is a number
abbrev pub number_in_field : Field → WireValue → Result ℕ PartFault
number_in_field field (VarintValue number) = Ok number
number_in_field field value = Err (part.Field (WrongKind field))

-- a value that is bytes
abbrev pub bytes_in_field : Field → WireValue → Result (List ℕ) PartFault
bytes_in_field field (BytesValue bytes) = Ok bytes
bytes_in_field field value = Err (part.Field (WrongKind field))

-- a value that is one number, or several that are packed
abbrev pub numbers_in_field : Field → WireValue → Result (List ℕ) PartFault
numbers_in_field field (VarintValue number) = Ok (number ∷ [])
numbers_in_field field (BytesValue bytes) = packed_of field bytes
numbers_in_field field value = Err (part.Field (WrongKind field))

-- a value that is a message
abbrev pub message_of : Field → WireValue → Result (List WireField) PartFault
message_of field value = bytes_in_field field value >>= fields_of field

-- the last of the values, or this one if there is none
abbrev pub last_value_of : {A : Type 0} → (WireValue → Result A PartFault) → A → List WireValue → Result A PartFault
last_value_of row absent values = each row values >>= λ all. Ok (last_or absent all)

-- A field that is a number, 0 if it is absent. The last one counts, and each has to be of its kind.
unfoldable pub number_row : Field → ℕ → List WireField → Result ℕ PartFault
number_row field number fields = last_value_of (number_in_field field) 0 (field_values_at number fields)

-- a field that is bytes, none if it is absent, likewise
unfoldable pub bytes_row : Field → ℕ → List WireField → Result (List ℕ) PartFault
bytes_row field number fields = last_value_of (bytes_in_field field) [] (field_values_at number fields)

-- a repeated field of numbers
unfoldable pub numbers_row : Field → ℕ → List WireField → Result (List ℕ) PartFault
numbers_row field number fields = joined_values (numbers_in_field field) (field_values_at number fields)

-- the fields of a message that stands in another, where each time that it stands there it is one
unfoldable pub message_row : Field → ℕ → List WireField → Result (List WireField) PartFault
message_row field number fields = each (message_of field) (field_values_at number fields) >>= λ _. Ok (fields_within number fields)
