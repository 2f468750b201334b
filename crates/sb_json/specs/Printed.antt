-- The printed causes of message faults.
use Rattle.std.specs.Prelude.{ℕ, List, [], ◌++◌, decimal, codes}
use Rattle.sb_json.specs.declared.faults.FieldFault.{FieldFault}
use Rattle.sb_json.specs.declared.faults.FieldFault.TheVariants as fault
use Rattle.sb_json.specs.declared.faults.MessageFault.{MessageFault}
use Rattle.sb_json.specs.declared.faults.MessageFault.TheVariants as message
use Rattle.sb_json.specs.Fields.{label_of}

-- what is wrong with a field, and the field
abbrev pub field_fault_text : FieldFault → List ℕ
field_fault_text (fault.Missing field) = codes "missing " ++ label_of field
field_fault_text (fault.WrongKind field) = codes "wrong-kind " ++ label_of field
field_fault_text (fault.Number field) = codes "number " ++ label_of field
field_fault_text (fault.Base64 field) = codes "base64 " ++ label_of field
field_fault_text (fault.Name field) = codes "name " ++ label_of field
field_fault_text (fault.Size field n) = codes "size " ++ decimal n ++ codes " " ++ label_of field
field_fault_text (fault.Duration field) = codes "duration " ++ label_of field
field_fault_text fault.OutOfMemory = []

-- the cause of a message's fault; the item counts from 1, and is 0 where the fault is in none
abbrev pub message_cause_text : MessageFault → List ℕ
message_cause_text (message.TooDense place) = codes "too-dense " ++ decimal place
message_cause_text message.NotJson = codes "not-json"
message_cause_text (message.Field field_fault item) = codes "field " ++ field_fault_text field_fault ++ codes " " ++ decimal item
message_cause_text (message.TooManyItems n) = codes "too-many-items " ++ decimal n
message_cause_text message.OutOfMemory = []
