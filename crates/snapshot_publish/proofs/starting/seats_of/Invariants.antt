use Rattle.snapshot_publish.specs.Kept.{AreEnds}
use Rattle.snapshot_publish.proofs.starting.seats_of.Given as goal

abbrev pub invariant-loop-place : goal.invariant-loop-place
invariant-loop-place g l = AreEnds l.place l.first.lists l.ends l.seats
