use Rattle.std.proofs.Common.{◌≡◌, ◌+◌, ◌-◌, ◌≤◌, ◌++◌, length, map, take, drop, All}
use Rattle.snapshot_publish.specs.Kept.{delivered}
use Rattle.snapshot_publish.proofs.publisher.deliver_all.Given as goal

abbrev pub invariant-loop-place : goal.invariant-loop-place
invariant-loop-place g l = record {
  done : l.ends ≡ map (delivered l.next) (take l.place l.fn.ends) ++ drop l.place l.fn.ends;
  left : length l.copies + l.place ≡ length l.fn.ends;
  within : l.place ≤ length l.fn.ends;
  each : All (λ copy. copy ≡ l.next) l.copies;
}

abbrev pub decreases-loop-place : goal.decreases-loop-place
decreases-loop-place g l = length l.ends - l.place
