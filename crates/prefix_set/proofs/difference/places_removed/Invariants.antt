use Rattle.std.proofs.Common.{◌≡◌, ◌≤◌, length, take, drop}
use Rattle.prefix_set.proofs.DifferenceFacts.{removed_from}
use Rattle.prefix_set.proofs.MergeFacts.{EachBefore}
use Rattle.prefix_set.proofs.difference.places_removed.Given as goal

-- what was passed of the newer set comes before what is left of the old one
abbrev pub invariant-loop-i : goal.invariant-loop-i
invariant-loop-i l = record {
  within : l.from ≤ length l.newer;
  passed : EachBefore (take l.from l.newer) (drop l.i l.old);
  removed : l.places ≡ removed_from 0 (take l.i l.old) l.newer;
}
