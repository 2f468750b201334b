use Rattle.std.proofs.Common.{◌≡◌, ◌++◌, map, length}
use Rattle.proto_wire.specs.Spelling.{written_fields}
use Rattle.proto_messages.specs.Writing as spec
use Rattle.proto_messages.proofs.fetch_answer.push_additions.Given as goal

abbrev pub invariant-loop-set : goal.invariant-loop-set
invariant-loop-set l = l.fn.out ++ written_fields (map spec.addition_field l.sets) ≡ l.out ++ written_fields (map spec.addition_field l.rest)

abbrev pub decreases-loop-set : goal.decreases-loop-set
decreases-loop-set l = length l.rest
