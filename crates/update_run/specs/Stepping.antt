-- What rounds that a client takes one by one have saved, and where they stop.
use Rattle.std.specs.Prelude.{◌≡◌, ◌+◌, ◌≤◌, ℕ, List, [], ◌∷◌, ◌++◌, length, Bool}
use Rattle.sb_round.specs.Round.{Round}
use Rattle.update_run.specs.Rounding.{StopsOneRound, StopsRounds, text_so_far}
use Rattle.update_run.specs.Run.{Seen}
use Rattle.update_run.specs.Saved.{saved_after, saved_lists}
use Rattle.update_run.specs.Steps.{TakesRound, TakesRounds}
use Rattle.update_run.specs.declared.client.Client.{Client}
use Rattle.update_run.specs.declared.plan.Plan.{Plan}
use Rattle.update_run.specs.declared.stop.RunStop.{RunStop}

-- Rounds and one more save what the rounds save, and then the lists of the last where it installed one.
abbrev pub GoesOnSaving : Type 0
GoesOnSaving = (plan : Plan) (number : ℕ) (rounds : List Round) (client between client' : Client) (before mid after : Seen) (refused more : Bool)
    → TakesRounds plan number rounds client between before mid refused
    → (takes : TakesRound plan (number + length rounds) between client' mid after more)
    → saved_lists client.lists (rounds ++ takes.made.round ∷ []) ≡ saved_lists client.lists rounds ++ saved_after takes.end.taken client'.lists

-- Where a client stops in the round after those that it took, it stops after rounds, as a run does.
abbrev pub StopsAfterSteps : Type 0
StopsAfterSteps = (why : RunStop) (plan : Plan) (rounds : List Round) (client between : Client) (before mid after : Seen) (refused : Bool)
    → 1 + length rounds ≤ plan.rounds
    → TakesRounds plan 1 rounds client between before mid refused
    → StopsOneRound why plan (1 + length rounds) between mid after
    → StopsRounds why plan client (text_so_far client) before after
