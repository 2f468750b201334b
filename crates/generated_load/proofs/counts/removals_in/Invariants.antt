use Rattle.std.proofs.Common.{◌≡◌, sum_by, take}
use Rattle.generated_load.specs.Exercise.{removed_count}
use Rattle.generated_load.proofs.counts.removals_in.Given as goal

-- the count is that of the sets so far
abbrev pub invariant-loop-set : goal.invariant-loop-set
invariant-loop-set l = l.count ≡ sum_by removed_count (take l.set-index l.sets)
