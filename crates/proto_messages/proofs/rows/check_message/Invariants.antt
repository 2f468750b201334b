use Rattle.std.proofs.Common.{◌≡◌, length}
use Rattle.proto_wire.specs.Reading.{wire_fields}
use Rattle.proto_messages.proofs.rows.check_message.Given as goal

abbrev pub invariant-loop-fault : goal.invariant-loop-fault
invariant-loop-fault l = l.fields.fault ≡ (wire_fields l.bytes).fault

abbrev pub decreases-loop-fault : goal.decreases-loop-fault
decreases-loop-fault l = length l.fields.items
