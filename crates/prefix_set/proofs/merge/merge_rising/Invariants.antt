use Rattle.prefix_set.specs.Kept.{AreDone}
use Rattle.prefix_set.proofs.MergeFacts.{IsMerged}
use Rattle.prefix_set.proofs.merge.merge_rising.Given as goal

-- the members in front of the place and the additions so far are merged
abbrev pub invariant-loop-i : goal.invariant-loop-i
invariant-loop-i g l = record {
  merged : IsMerged l.old l.removals l.additions l.done.place l.i l.out;
  done : AreDone l.removals l.done.removals l.done.place;
}
