use Rattle.std.proofs.Common.{refl, arith}
use Rattle.prefix_set.proofs.SortRising.{rises_by_places, fails_at_places, adjacent_more}
use Rattle.prefix_set.proofs.packed.PackedPrefixes.members_rise.Goals as goal

pub returns-then-not-precedes : goal.returns-then-not-precedes
returns-then-not-precedes c =
    fails_at_places c.args.self.now c.loop-i.i c.at.result.now c.at-in-loop-i.result.now (omega arith) (omega arith) c.at.ensures.value c.at-in-loop-i.ensures.value
    c.if-not-precedes.ensures.1

pub loop-i-preserved : goal.loop-i-preserved
loop-i-preserved c =
    adjacent_more c.args.self.now c.loop-i.i c.at.result.now c.at-in-loop-i.result.now (omega arith) c.at.ensures.value c.at-in-loop-i.ensures.value
    (c.if-not-precedes.ensures.0 refl) c.loop-i.invariant

pub returns : goal.returns
returns c = rises_by_places c.args.self.now c.loop-i.i (omega arith) c.loop-i.invariant
