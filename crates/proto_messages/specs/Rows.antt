-- The rows that requests share.
use Rattle.std.specs.Prelude.{ℕ, ◌+◌, nat_le, if◌then◌else◌, List, [], ◌∷◌, length, Result, Ok, Err}
use Rattle.std.specs.Str.{is_utf8, chars}
use Rattle.proto_wire.specs.Wire.{WireValue, WireField}
use Rattle.sb_json.specs.Values.{◌>>=◌}
use Rattle.sb_json.specs.declared.fields.Field.{Field}
use Rattle.sb_json.specs.declared.fields.Field.TheVariants as field
use Rattle.sb_json.specs.declared.faults.FieldFault.TheVariants.{WrongKind, Number, Size}
use Rattle.update_messages.specs.declared.client.ClientInfo.{ClientInfo}
use Rattle.update_messages.specs.Messages.{most_i32, most_state}
use Rattle.proto_messages.specs.declared.fault.PartFault.{PartFault}
use Rattle.proto_messages.specs.declared.fault.PartFault.TheVariants as part
use Rattle.proto_messages.specs.declared.fault.ProtoFault.{ProtoFault}
use Rattle.proto_messages.specs.Fields.{part_fault_in_item, fields_of, number_row, bytes_row, message_row}

-- the text that bytes spell in UTF-8
unfoldable pub utf8_text_in : Field → List ℕ → Result (List ℕ) PartFault
utf8_text_in field bytes = if is_utf8 bytes then Ok (chars bytes) else Err (part.Field (WrongKind field))

-- a field that is a text, empty if it is absent
abbrev pub text_row : Field → ℕ → List WireField → Result (List ℕ) PartFault
text_row field number fields = bytes_row field number fields >>= utf8_text_in field

-- a number of 32 bits that is not negative
abbrev pub whole_number_in : Field → ℕ → Result ℕ PartFault
whole_number_in field number = if nat_le number most_i32 then Ok number else Err (part.Field (Number field))

-- a field that is one, 0 if it is absent
abbrev pub whole_row : Field → ℕ → List WireField → Result ℕ PartFault
whole_row field number fields = number_row field number fields >>= whole_number_in field

-- bytes that are no more than a state token may have
abbrev pub state_in : Field → List ℕ → Result (List ℕ) PartFault
state_in field bytes = if nat_le (length bytes) most_state then Ok bytes else Err (part.Field (Size field (length bytes)))

-- a field that is a state token, empty if it is absent
abbrev pub state_token_row : Field → ℕ → List WireField → Result (List ℕ) PartFault
state_token_row field number fields = bytes_row field number fields >>= state_in field

-- who asks: `client_id` is field 1, and `client_version` field 2
unfoldable pub client_of : List WireField → Result ClientInfo PartFault
client_of fields = do
  id ← text_row field.ClientId 1 fields
  version ← text_row field.ClientVersion 2 fields
  Ok (record { id = id; version = version })

-- `client`, field 1 of each request
abbrev pub client_message_row : List WireField → Result ClientInfo PartFault
client_message_row fields = message_row field.Client 1 fields >>= client_of

-- the client of a request
abbrev pub client_in : List ℕ → Result ClientInfo PartFault
client_in text = fields_of field.Root text >>= client_message_row

-- what is read in an item, or its fault with the item's number
abbrev pub in_numbered_item : {A : Type 0} → ℕ → Result A PartFault → Result A ProtoFault
in_numbered_item number (Ok a) = Ok a
in_numbered_item number (Err fault) = Err (part_fault_in_item fault number)

-- what is read of items, in order, from the one with a number on; or the first fault
abbrev pub items_numbered_from : {A : Type 0} → (WireValue → Result A PartFault) → ℕ → List WireValue → Result (List A) ProtoFault
items_numbered_from row number [] = Ok []
items_numbered_from row number (value ∷ values) = in_numbered_item number (row value) >>= λ a. items_numbered_from row (number + 1) values >>= λ more. Ok (a ∷ more)
