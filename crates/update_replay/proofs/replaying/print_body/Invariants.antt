use Rattle.std.proofs.Common.{◌≡◌, ℕ, List, ◌++◌, drop}
use Rattle.sb_outside.specs.Writing.{IsOnItsWay}
use Rattle.update_replay.specs.Printed.{taken_lines}
use Rattle.update_replay.proofs.replaying.print_body.Given as goal

-- the lines so far are on their way, and those that are left complete them
abbrev pub invariant-loop-i : goal.invariant-loop-i
invariant-loop-i g l =
    (done : List ℕ)
    × IsOnItsWay (g.O.Sink.contents l.initial.out) (g.O.Sink.contents l.out) l.page done
    × (done ++ taken_lines l.number (drop l.i l.updates) (drop l.i l.outcomes) ≡ l.initial.page ++ taken_lines l.number l.updates l.outcomes)
    × (g.O.Sink.faults l.out ≡ g.O.Sink.faults l.initial.out)
