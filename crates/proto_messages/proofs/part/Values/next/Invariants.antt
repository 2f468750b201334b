use Rattle.std.proofs.Common.{◌≡◌, length}
use Rattle.proto_messages.specs.Fields.{field_values_at}
use Rattle.proto_messages.proofs.part.Values.next.Given as goal

abbrev pub invariant-loop-field : goal.invariant-loop-field
invariant-loop-field l = l.fn.self ≡ field_values_at l.self-inside.number l.self-inside.fields

abbrev pub decreases-loop-field : goal.decreases-loop-field
decreases-loop-field l = length l.self-inside.fields
