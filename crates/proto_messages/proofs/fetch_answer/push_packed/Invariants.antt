use Rattle.std.proofs.Common.{◌≡◌, ◌++◌, length}
use Rattle.proto_messages.specs.Writing as spec
use Rattle.proto_messages.proofs.fetch_answer.push_packed.Given as goal

abbrev pub invariant-loop-number : goal.invariant-loop-number
invariant-loop-number l = l.fn.out ++ spec.packed_varint_bytes l.numbers ≡ l.out ++ spec.packed_varint_bytes l.rest

abbrev pub decreases-loop-number : goal.decreases-loop-number
decreases-loop-number l = length l.rest
