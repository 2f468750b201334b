use Rattle.std.proofs.Common.{◌≡◌, ℕ, List, ◌++◌, drop}
use Rattle.std.specs.List.{flat_map}
use Rattle.sb_outside.specs.Writing.{IsOnItsWay}
use Rattle.update_replay.specs.Printed.{list_lines}
use Rattle.update_replay.proofs.replaying.print_lists.Given as goal

-- the lists so far are on their way, and those that are left complete the text
abbrev pub invariant-loop-held : goal.invariant-loop-held
invariant-loop-held g l =
    (done : List ℕ)
    × IsOnItsWay (g.O.Sink.contents l.initial.out) (g.O.Sink.contents l.out) l.page done
    × (done ++ flat_map list_lines (drop l.held-index l.lists) ≡ l.initial.page ++ flat_map list_lines l.lists)
    × (g.O.Sink.faults l.out ≡ g.O.Sink.faults l.initial.out)
