use Rattle.std.proofs.Common.{◌+◌, List, sym, subst}
use Rattle.snapshot_publish.specs.Publishing.{Known, Seated}
use Rattle.snapshot_publish.specs.Kept.{AreEnds}
use Rattle.snapshot_publish.proofs.Boxes.{more_ends}
use Rattle.snapshot_publish.proofs.starting.seats_of.Goals as goal

pub loop-place-preserved : goal.loop-place-preserved
loop-place-preserved g c =
    subst (λ (q : List Known × List Seated). AreEnds (c.loop-place.place + 1) c.args.first.now.lists q.0 q.1) (λ i. (sym c.in_ok-push.ensures.ok i, sym c.in_ok-push-2.ensures.ok i))
    (more_ends c.loop-place.place c.args.first.now.lists c.loop-place.ends c.loop-place.seats c.in_ok-end.end c.in_ok-end.seat c.loop-place.invariant c.in_ok-end.ensures.end c.in_ok-end.ensures.seat)
