use Rattle.std.proofs.Common.{◌≡◌, ◌+◌, ℕ, List, Option}
use Rattle.sb_service.specs.Kept.{AreKeptOf}
use Rattle.sb_service.specs.Serving.{HaveStayed}
use Rattle.sb_service.proofs.serve.serve_held.Given as goal

-- the connections so far were served over the same history, no fault was counted, and what is kept is kept of the history
abbrev pub invariant-loop-before : goal.invariant-loop-before
invariant-loop-before g l =
    (count : ℕ)
    × (l.taken + count ≡ l.before)
    × ((left : Option (List (List ℕ))) → HaveStayed l.plan l.taken count
    (record { left = left; kept = l.history; held = g.O.Sink.contents l.initial.out; log = g.D.Door.log l.initial.door; coming = g.D.Door.coming l.initial.door })
    (record { left = left; kept = l.history; held = g.O.Sink.contents l.out; log = g.D.Door.log l.door; coming = g.D.Door.coming l.door }))
    × (g.O.Sink.faults l.out ≡ g.O.Sink.faults l.initial.out)
    × (g.D.Door.faults l.door ≡ g.D.Door.faults l.initial.door)
    × AreKeptOf l.history.versions l.plan.settings l.kept
