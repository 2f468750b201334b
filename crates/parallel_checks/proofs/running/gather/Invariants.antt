use Rattle.std.proofs.Common.{◌≡◌, ◌++◌, length}
use Rattle.std.specs.Vec.Iter.{into_iter_items, into_iter_len}
use Rattle.parallel_checks.specs.Working.{AreGathered}
use Rattle.parallel_checks.proofs.running.gather.Given as goal

abbrev pub invariant-loop-work : goal.invariant-loop-work
invariant-loop-work l = record {
  all : l.yielded ++ into_iter_items l.work-iterator ≡ l.fn.works.items;
  count : into_iter_len l.work-iterator ≡ length (into_iter_items l.work-iterator);
  gathered : AreGathered l.yielded l.seats l.rows;
}
