use Rattle.std.proofs.Common.{◌≡◌, List, length}
use Rattle.sb_round.specs.Round.{Round}
use Rattle.update_run.specs.Run.{seen}
use Rattle.update_run.specs.Saved.{keeping}
use Rattle.update_run.specs.Steps.{TakesRounds}
use Rattle.update_run.proofs.rounding.all_rounds.Given as goal

-- the rounds so far, and no fault was counted
abbrev pub invariant-loop-made : goal.invariant-loop-made
invariant-loop-made g l =
    (rounds : List Round)
    × (length rounds ≡ l.made)
    × TakesRounds l.plan 1 rounds l.initial.client l.client
    (seen (g.N.Line.view l.initial.line).told
    (keeping (g.K.Keeper.handed l.initial.keep) (g.K.Keeper.kept l.initial.keep)) (g.O.Sink.contents l.initial.out))
    (seen (g.N.Line.view l.line).told
    (keeping (g.K.Keeper.handed l.keep) (g.K.Keeper.kept l.keep)) (g.O.Sink.contents l.out)) l.refused
    × (g.O.Sink.faults l.out ≡ g.O.Sink.faults l.initial.out)
    × (g.K.Keeper.faults l.keep ≡ g.K.Keeper.faults l.initial.keep)
    × ((g.N.Line.view l.line).objects ≡ (g.N.Line.view l.initial.line).objects)
