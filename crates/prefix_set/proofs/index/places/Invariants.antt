use Rattle.std.proofs.Common.{take}
use Rattle.prefix_set.specs.Index.{HaveHeads}
use Rattle.prefix_set.specs.Limits.{ArePrefixes}
use Rattle.prefix_set.proofs.IndexFacts.{ArePlacesSoFar}
use Rattle.prefix_set.proofs.index.places.Given as goal

abbrev pub invariant-loop-i : goal.invariant-loop-i
invariant-loop-i l = record {
  places : ArePlacesSoFar l.places.items l.members l.i;
  prefixes : ArePrefixes (take l.i l.members);
  second : HaveHeads (take l.i l.members);
}
