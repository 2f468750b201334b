use Rattle.std.proofs.Common.{arith}
use Rattle.prefix_set.proofs.SortRising.{rises_by_places, fails_at_place}
use Rattle.prefix_set.proofs.sorting.quads_rise.Goals as goal

pub returns-then-not-comes_before : goal.returns-then-not-comes_before
returns-then-not-comes_before c = fails_at_place c.args.quads.now c.loop-i.i (omega arith) c.loop-i-test.true c.if-not-comes_before.ensures.1

pub returns : goal.returns
returns c = rises_by_places c.args.quads.now c.loop-i.i c.loop-i-test.false c.loop-i.invariant
