use Rattle.std.proofs.Common.{◌≡◌, ◌++◌, ◌/◌, ◌^◌, true, replicate}
use Rattle.rice_coding.proofs.writer.Pending.put_code.Given as goal

abbrev pub invariant-loop-ones : goal.invariant-loop-ones
invariant-loop-ones l = (l.writer ++ l.pending) ++ replicate l.ones true ≡ (l.fn.writer ++ l.fn.self) ++ replicate (l.delta / 2 ^ l.parameter) true

abbrev pub decreases-loop-ones : goal.decreases-loop-ones
decreases-loop-ones l = l.ones
