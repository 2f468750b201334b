use Rattle.std.proofs.Common.{◌≡◌, ◌++◌, length}
use Rattle.proto_wire.specs.Spelling.{written_fields}
use Rattle.proto_messages.specs.Writing as spec
use Rattle.proto_messages.proofs.fetch_answer.push_updates.Given as goal

abbrev pub invariant-loop-update : goal.invariant-loop-update
invariant-loop-update l = l.fn.out ++ written_fields (spec.updates_written l.threats l.updates) ≡ l.out ++ written_fields (spec.updates_written l.numbers l.rest)

abbrev pub decreases-loop-update : goal.decreases-loop-update
decreases-loop-update l = length l.rest
