-- Rounds of a client, after each of which what it installed is published.
use Rattle.std.specs.Prelude.{◌≡◌, ◌⊎◌, ℕ, ◌≤◌, Bool, List, ◌++◌, length, Option}
use Rattle.sb_round.specs.Round.{Round}
use Rattle.snapshot_publish.specs.Publications.{Publications}
use Rattle.update_run.specs.Rounding.{StopsRounds, text_so_far}
use Rattle.update_run.specs.Run.{Seen}
use Rattle.update_run.specs.Saved.{saved_lists}
use Rattle.update_run.specs.Steps.{WritesPage, TellsRound, TakesRounds}
use Rattle.update_run.specs.declared.client.Client.{Client}
use Rattle.update_run.specs.declared.plan.Plan.{Plan}
use Rattle.update_run.specs.declared.rounding.RoundTold.{RoundTold}
use Rattle.update_run.specs.declared.stop.RunStop.{RunStop}
use Rattle.update_run.specs.declared.stop.RunStop.TheVariants as stop

-- ---- one round

-- What waited was written, and then a round was made.
pub record WritesAndTells (plan : Plan) (number : ℕ) (client client' : Client) (before after : Seen) (told : RoundTold) : Type 0 where
  pub between : Client
  pub output : Option (List ℕ)
  pub writes : WritesPage client between before.output output
  pub tells : TellsRound plan number between client' (record before { output = output }) after told

-- ---- the rounds of a plan

-- A client took rounds, and the lists of each that installed one were published in order.
pub record PublishesRounds (plan : Plan) (rounds : List Round) (client client' : Client) (published published' : Publications) (before after : Seen) (refused : Bool) : Type 0 where
  pub takes : TakesRounds plan 1 rounds client client' before after refused
  pub published_are : published' ≡ published ++ saved_lists client.lists rounds

-- So it did all rounds of a plan.
pub record PublishesAllRounds (plan : Plan) (client client' : Client) (published published' : Publications) (before after : Seen) (refused : Bool) : Type 0 where
  pub rounds : List Round
  pub all : length rounds ≡ plan.rounds
  pub publishes : PublishesRounds plan rounds client client' published published' before after refused

-- Some rounds were made, and memory was refused for the publication of what the last of them installed.
pub record StopsAtPublication (plan : Plan) (client : Client) (before after : Seen) : Type 0 where
  pub rounds : List Round
  pub few : length rounds ≤ plan.rounds
  pub client' : Client
  pub refused : Bool
  pub takes : TakesRounds plan 1 rounds client client' before after refused

-- A client stopped in its rounds, as one does that publishes nothing, or at a publication.
abbrev pub StopsPublishing : RunStop → Plan → Client → (before after : Seen) → Type 0
StopsPublishing why plan client before after =
    StopsRounds why plan client (text_so_far client) before after ⊎ ((why ≡ stop.OutOfMemory) × StopsAtPublication plan client before after)
