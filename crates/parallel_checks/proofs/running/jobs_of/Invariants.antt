use Rattle.std.proofs.Common.{◌≡◌, ◌++◌, length}
use Rattle.std.specs.Vec.Iter.{into_iter_items, into_iter_len}
use Rattle.parallel_checks.specs.Working.{AreJobsOf}
use Rattle.parallel_checks.proofs.running.jobs_of.Given as goal

abbrev pub invariant-loop-seat : goal.invariant-loop-seat
invariant-loop-seat l = record {
  all : l.yielded ++ into_iter_items l.seat-iterator ≡ l.fn.seats;
  count : into_iter_len l.seat-iterator ≡ length (into_iter_items l.seat-iterator);
  jobs : AreJobsOf l.yielded l.jobs;
}
