use Rattle.std.proofs.Common.{◌≡◌, ◌-◌, ◌≤◌, length, map, take}
use Rattle.snapshot_publish.specs.Publishing.{told_at}
use Rattle.snapshot_publish.proofs.publisher.letters_of.Given as goal

abbrev pub invariant-loop-place : goal.invariant-loop-place
invariant-loop-place l = record {
  same : l.ends ≡ l.fn.ends;
  told : l.letters ≡ map told_at (take l.place l.fn.ends);
  within : l.place ≤ length l.fn.ends;
}

abbrev pub decreases-loop-place : goal.decreases-loop-place
decreases-loop-place l = length l.ends - l.place
