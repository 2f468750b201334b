use Rattle.std.proofs.Common.{◌≡◌, ◌≤◌, List, length}
use Rattle.sb_round.specs.Round.{Round}
use Rattle.update_run.specs.Run.{seen}
use Rattle.update_run.specs.Saved.{keeping}
use Rattle.judge_run.specs.Rounds.{PublishesRounds}
use Rattle.judge_run.proofs.rounding.publish_rounds.Given as goal

-- the rounds so far, and no fault was counted; before the first nothing was done
abbrev pub invariant-loop-made : goal.invariant-loop-made
invariant-loop-made g l =
    (rounds : List Round)
    × (length rounds ≡ l.made)
    × PublishesRounds l.plan rounds l.initial.updater.client l.updater.client l.initial.updater.publisher.list l.updater.publisher.list
    (seen (g.N.Line.view l.initial.line).told
    (keeping (g.K.Keeper.handed l.initial.keep) (g.K.Keeper.kept l.initial.keep)) (g.O.Sink.contents l.initial.out))
    (seen (g.N.Line.view l.line).told
    (keeping (g.K.Keeper.handed l.keep) (g.K.Keeper.kept l.keep)) (g.O.Sink.contents l.out)) l.refused
    × (l.updater.publisher.boxes ≡ l.initial.updater.publisher.boxes)
    × (g.O.Sink.faults l.out ≡ g.O.Sink.faults l.initial.out)
    × (g.K.Keeper.faults l.keep ≡ g.K.Keeper.faults l.initial.keep)
    × ((g.N.Line.view l.initial.line).told.faults ≤ (g.N.Line.view l.line).told.faults)
    × (l.made ≡ 0 → (l.line ≡ l.initial.line) × (l.keep ≡ l.initial.keep) × (l.out ≡ l.initial.out))
    × ((g.N.Line.view l.line).objects ≡ (g.N.Line.view l.initial.line).objects)
