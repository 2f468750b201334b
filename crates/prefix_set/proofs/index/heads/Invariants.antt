use Rattle.std.proofs.Common.{◌≡◌, map, take}
use Rattle.prefix_set.specs.Index.{head_number, HaveHeads}
use Rattle.prefix_set.specs.Limits.{ArePrefixes}
use Rattle.prefix_set.proofs.index.heads.Given as goal

abbrev pub invariant-loop-i : goal.invariant-loop-i
invariant-loop-i l = record {
  heads : l.heads.items ≡ map head_number (take l.i l.members);
  prefixes : ArePrefixes (take l.i l.members);
  second : HaveHeads (take l.i l.members);
}
