use Rattle.std.proofs.Common.{◌≡◌, ◌+◌, ◌-◌, ◌*◌, min, length}
use Rattle.std.specs.Prelude.{IfSome}
use Rattle.parallel_checks.specs.Checks.{Shows, of_seat}
use Rattle.parallel_checks.proofs.WorkSoFar.{SoFar}
use Rattle.parallel_checks.proofs.working.work.Given as goal

abbrev pub invariant-loop-index : goal.invariant-loop-index
invariant-loop-index g l = record {
  so_far : SoFar (of_seat l.urls l.step l.place) l.fn.job.seat l.seat l.checks;
  at : l.index ≡ min (length l.urls) (l.place + length l.checks * l.step);
  known : IfSome l.known (λ shown. Shows l.seat.list shown.last);
}

abbrev pub decreases-loop-index : goal.decreases-loop-index
decreases-loop-index g l = length l.urls - l.index
