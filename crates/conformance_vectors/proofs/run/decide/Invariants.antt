use Rattle.std.proofs.Common.{take}
use Rattle.conformance_vectors.specs.Vectors.{AreDecided}
use Rattle.conformance_vectors.proofs.run.decide.Given as goal

abbrev pub invariant-loop-case : goal.invariant-loop-case
invariant-loop-case l = AreDecided (take l.case-index l.cases) l.answers.items
