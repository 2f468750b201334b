use Rattle.std.proofs.Common.{◌≡◌, ◌-◌, length}
use Rattle.parallel_checks.proofs.SettledSoFar.{SettledTo}
use Rattle.parallel_checks.proofs.settling.settle.Given as goal

abbrev pub invariant-loop-place : goal.invariant-loop-place
invariant-loop-place l = record {
  same : l.publisher ≡ l.fn.publisher;
  step : l.step ≡ length l.fn.run.seats;
  settled : SettledTo l.fn.publisher.list l.urls l.fn.run.seats l.seats l.fn.run.checks l.checks l.place;
}

abbrev pub decreases-loop-place : goal.decreases-loop-place
decreases-loop-place l = length l.seats - l.place
