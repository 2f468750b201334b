use Rattle.std.proofs.Common.{◌≡◌, ◌≤◌, length, take, drop}
use Rattle.sb_model.specs.Difference.{added_members}
use Rattle.prefix_set.proofs.MergeFacts.{EachBefore}
use Rattle.prefix_set.proofs.difference.members_added.Given as goal

-- what was passed of the old set comes before what is left of the newer one
abbrev pub invariant-loop-i : goal.invariant-loop-i
invariant-loop-i l = record {
  within : l.from ≤ length l.old;
  passed : EachBefore (take l.from l.old) (drop l.i l.newer);
  added : l.members ≡ added_members l.old (take l.i l.newer);
}
