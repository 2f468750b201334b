-- The printed causes of the faults of messages.
use Rattle.std.specs.Prelude.{ℕ, List, [], ◌++◌, decimal, codes}
use Rattle.proto_wire.specs.declared.fault.WireFault.{WireFault}
use Rattle.proto_wire.specs.declared.fault.WireFault.TheVariants.{Cut, LongVarint, WireType, FieldNumber}
use Rattle.sb_json.specs.Fields.{label_of}
use Rattle.sb_json.specs.Printed.{message_cause_text}
use Rattle.sb_json.specs.declared.faults.MessageFault.TheVariants as json
use Rattle.proto_messages.specs.declared.fault.PartFault.{PartFault}
use Rattle.proto_messages.specs.declared.fault.PartFault.TheVariants as part
use Rattle.proto_messages.specs.declared.fault.ProtoFault.{ProtoFault}
use Rattle.proto_messages.specs.declared.fault.ProtoFault.TheVariants as message

-- what is wrong with bytes that are not in the wire form, and the place of the field
abbrev pub wire_fault_text : WireFault → List ℕ
wire_fault_text (Cut place) = codes "cut " ++ decimal place
wire_fault_text (LongVarint place) = codes "long-varint " ++ decimal place
wire_fault_text (WireType place) = codes "wire-type " ++ decimal place
wire_fault_text (FieldNumber place) = codes "field-number " ++ decimal place

-- the cause of a part's fault in an item
abbrev pub part_cause_text : PartFault → ℕ → List ℕ
part_cause_text (part.Wire field fault) item = codes "wire " ++ wire_fault_text fault ++ codes " " ++ label_of field ++ codes " " ++ decimal item
part_cause_text (part.Field fault) item = message_cause_text (json.Field fault item)
part_cause_text part.OutOfMemory item = []

-- The cause of a message's fault. What the form in JSON is refused for too has its cause there. The item counts from 1, and is 0 where the
-- fault is in none.
abbrev pub proto_cause_text : ProtoFault → List ℕ
proto_cause_text message.NotBase64 = codes "not-base64"
proto_cause_text (message.Part fault item) = part_cause_text fault item
proto_cause_text (message.TooManyItems n) = message_cause_text (json.TooManyItems n)
proto_cause_text message.OutOfMemory = []
