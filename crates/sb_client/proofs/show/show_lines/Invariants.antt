use Rattle.std.proofs.Common.{◌≡◌, ◌+◌, ◌≤◌, ℕ, List, ◌++◌, length}
use Rattle.std.specs.Prelude.{◌||◌}
use Rattle.sb_outside.specs.Writing.{IsOnItsWay}
use Rattle.input_lines.specs.Lines.{lines_of}
use Rattle.sb_client.specs.Shown.{all_shown, show_text, has_refused_url}
use Rattle.sb_client.proofs.show.show_lines.Given as goal

-- what the lines so far gave, and what those that are left will give, is what all lines give
abbrev pub invariant-loop-rest : goal.invariant-loop-rest
invariant-loop-rest g l =
    (done : List ℕ)
    × IsOnItsWay (g.O.Sink.contents l.initial.out) (g.O.Sink.contents l.out) l.page done
    × (done ++ all_shown l.number (lines_of l.rest) ≡ show_text l.input)
    × ((l.refused || has_refused_url (lines_of l.rest)) ≡ has_refused_url (lines_of l.input))
    × (g.O.Sink.faults l.out ≡ g.O.Sink.faults l.initial.out)
    × (l.number + length l.rest ≤ length l.input + 1)

abbrev pub decreases-loop-rest : goal.decreases-loop-rest
decreases-loop-rest g l = length l.rest
