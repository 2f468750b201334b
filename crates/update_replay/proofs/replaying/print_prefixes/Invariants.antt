use Rattle.std.proofs.Common.{◌≡◌, ℕ, List, ◌++◌}
use Rattle.std.specs.List.{flat_map}
use Rattle.update_replay.specs.Printed.{prefix_line}
use Rattle.sb_outside.specs.Writing.{IsOnItsWay}
use Rattle.update_replay.proofs.replaying.print_prefixes.Given as goal

-- the text so far is on its way, and what is left completes it
abbrev pub invariant-loop-prefix : goal.invariant-loop-prefix
invariant-loop-prefix g l =
    (done : List ℕ)
    × IsOnItsWay (g.O.Sink.contents l.initial.out) (g.O.Sink.contents l.out) l.page done
    × (done ++ flat_map prefix_line l.prefix-iterator ≡ l.initial.page ++ flat_map prefix_line l.held.set)
    × (g.O.Sink.faults l.out ≡ g.O.Sink.faults l.initial.out)
