use Rattle.std.proofs.Common.{◌≡◌, ◌+◌, ◌≤◌, ℕ, List, ◌++◌, length, map}
use Rattle.std.specs.Prelude.{◌||◌}
use Rattle.sb_outside.specs.Writing.{IsOnItsWay}
use Rattle.sb_round.specs.Run.{lists_after}
use Rattle.input_lines.specs.Lines.{lines_of}
use Rattle.update_replay.specs.Readings.{ResponseReading, bodies_of, IsReader}
use Rattle.update_replay.specs.Printed.{outcome_lines}
use Rattle.update_replay.specs.Replay.{is_any_body_refused}
use Rattle.update_replay.proofs.replaying.take_lines.Given as goal

-- what the lines so far did, and what those that are left will do, is what all lines do
abbrev pub invariant-loop-rest : goal.invariant-loop-rest
invariant-loop-rest g l =
    ((read : List ℕ → ResponseReading) → IsReader read →
    let left = map read (lines_of l.rest) in
    let all = map read (lines_of l.input) in
    (done : List ℕ)
    × IsOnItsWay (g.O.Sink.contents l.initial.out) (g.O.Sink.contents l.out) l.page done
    × (done ++ outcome_lines l.number l.lists left ≡ outcome_lines 1 l.initial.lists all)
    × (lists_after l.lists (bodies_of left) ≡ lists_after l.initial.lists (bodies_of all))
    × ((l.refused || is_any_body_refused l.lists left) ≡ is_any_body_refused l.initial.lists all))
    × (g.O.Sink.faults l.out ≡ g.O.Sink.faults l.initial.out)
    × (l.number + length l.rest ≤ length l.input + 1)

abbrev pub decreases-loop-rest : goal.decreases-loop-rest
decreases-loop-rest g l = length l.rest
