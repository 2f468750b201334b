-- How the fault of a field becomes that of its message.
use Rattle.std.specs.Prelude.{ℕ}
use Rattle.sb_json.specs.declared.faults.FieldFault.{FieldFault}
use Rattle.sb_json.specs.declared.faults.FieldFault.TheVariants as fault
use Rattle.sb_json.specs.declared.faults.MessageFault.{MessageFault}
use Rattle.sb_json.specs.declared.faults.MessageFault.TheVariants as message

-- a field's fault in an item, and want of memory as it is
abbrev pub fault_in_item : FieldFault → ℕ → MessageFault
fault_in_item fault.OutOfMemory item = message.OutOfMemory
fault_in_item field_fault item = message.Field field_fault item
