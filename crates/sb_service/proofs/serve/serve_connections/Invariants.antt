use Rattle.std.proofs.Common.{◌≡◌, List, length}
use Rattle.sb_service.specs.Kept.{AreKeptOf}
use Rattle.sb_service.specs.Serving.{Turn, HasTurns}
use Rattle.sb_service.proofs.serve.serve_connections.Given as goal

-- the turns so far, no fault was counted, and what is kept is kept of the history
abbrev pub invariant-loop-taken : goal.invariant-loop-taken
invariant-loop-taken g l =
    (turns : List Turn)
    × (length turns ≡ l.taken)
    × HasTurns l.plan turns
    (record { left = g.J.Source.left l.initial.journal; kept = l.initial.served.history; held = g.O.Sink.contents l.initial.out; log = g.D.Door.log l.initial.door; coming = g.D.Door.coming l.initial.door })
    (record { left = g.J.Source.left l.journal; kept = l.served.history; held = g.O.Sink.contents l.out; log = g.D.Door.log l.door; coming = g.D.Door.coming l.door })
    × (g.J.Source.faults l.journal ≡ g.J.Source.faults l.initial.journal)
    × (g.O.Sink.faults l.out ≡ g.O.Sink.faults l.initial.out)
    × (g.D.Door.faults l.door ≡ g.D.Door.faults l.initial.door)
    × AreKeptOf l.served.history.versions l.plan.settings l.served.kept
