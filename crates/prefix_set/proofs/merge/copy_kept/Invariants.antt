use Rattle.std.proofs.Common.{◌≡◌, ◌≤◌, ◌-◌, ◌++◌, length}
use Rattle.prefix_set.specs.Kept.{kept_between, AreDone}
use Rattle.prefix_set.proofs.merge.copy_kept.Given as goal

-- what is kept of the members in front of `start` was copied
abbrev pub invariant-loop-removed : goal.invariant-loop-removed
invariant-loop-removed g l = record {
  from : l.fn.done.place ≤ l.start;
  to : l.start ≤ l.to;
  done : AreDone l.removals l.removed l.start;
  copied : l.out ≡ l.fn.out ++ kept_between l.old l.removals l.fn.done.place l.start;
}

abbrev pub decreases-loop-removed : goal.decreases-loop-removed
decreases-loop-removed g l = length l.removals - l.removed
