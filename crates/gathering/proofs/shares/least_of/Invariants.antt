use Rattle.std.specs.Prelude.{map}
use Rattle.std.specs.Map.Iter.{deref_pair}
use Rattle.gathering.proofs.LeastTaken.{LeastSoFar}
use Rattle.gathering.proofs.shares.least_of.Given as goal

abbrev pub invariant-loop-address : goal.invariant-loop-address
invariant-loop-address l = LeastSoFar (map deref_pair l.yielded) l.least
