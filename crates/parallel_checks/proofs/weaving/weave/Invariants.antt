use Rattle.parallel_checks.proofs.WeaveFacts.{Taken}
use Rattle.parallel_checks.proofs.weaving.weave.Given as goal

abbrev pub invariant-loop-index : goal.invariant-loop-index
invariant-loop-index l = Taken l.fn.rows l.rows l.woven l.index
