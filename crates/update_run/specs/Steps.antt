-- The steps of a run, which may be taken one by one: what waits is written, and a round is made, told and saved.
use Rattle.std.specs.Prelude.{◌≡◌, ◌⊎◌, ℕ, ◌+◌, Bool, false, ◌||◌, List, [], ◌∷◌, ◌++◌, length, Option, IsTrue}
use Rattle.sb_outside.specs.Outside.{appended}
use Rattle.sb_outside.specs.Writing.{HasFront, IsOnItsWay}
use Rattle.update_client.specs.Held.{Held}
use Rattle.wait_rules.specs.declared.waits.WaitState.{WaitState}
use Rattle.sb_round.specs.Printed.{round_lines}
use Rattle.sb_round.specs.Round.{Round, RoundState, round_state, MakesRound, BreaksOff}
use Rattle.sb_round.specs.Rounds.{MakesRounds}
use Rattle.sb_round.specs.declared.rounds.RoundEnd.{RoundEnd}
use Rattle.update_run.specs.Printed.{told_end, has_refusal, has_refusals, rounds_text}
use Rattle.update_run.specs.Run.{Seen}
use Rattle.update_run.specs.Saved.{Keeping, HasSaved, FailsToSave, has_installed, saved_after, saved_lists}
use Rattle.update_run.specs.declared.client.Client.{Client}
use Rattle.update_run.specs.declared.plan.Plan.{Plan}
use Rattle.update_run.specs.declared.rounding.RoundTold.{RoundTold}
use Rattle.update_run.specs.declared.stop.RunStop.{RunStop}
use Rattle.update_run.specs.declared.stop.RunStop.TheVariants as stop

-- ---- what waits is written

-- What waited was written, and now nothing waits. The lists and the state of waiting are as before.
pub record WritesPage (client client' : Client) (before after : Option (List ℕ)) : Type 0 where
  pub is : client' ≡ record client { page = [] }
  pub text : after ≡ appended before client.page

-- ---- a round

-- a client's lists, and when it may ask next
abbrev pub round_state_of : Client → RoundState
round_state_of client = round_state client.lists client.waits

-- A client of which no text waited made a round, and told it and saved what it installed.
pub record TakesRound (plan : Plan) (number : ℕ) (client client' : Client) (before after : Seen) (refused : Bool) : Type 0 where
  pub written : client.page ≡ []
  pub end : RoundEnd
  pub made : MakesRound (round_state_of client) (round_state_of client') plan.options plan.target plan.need_digest before.outside after.outside end
  pub saved : HasSaved (saved_after end.taken client'.lists) before.keeper after.keeper
  pub text : IsOnItsWay before.output after.output client'.page (told_end number client'.lists end)
  pub refusal : refused ≡ has_refusal end.taken

-- The same, with what is told of the round: whether with a refusal, and whether a list was installed.
pub record TellsRound (plan : Plan) (number : ℕ) (client client' : Client) (before after : Seen) (told : RoundTold) : Type 0 where
  pub takes : TakesRound plan number client client' before after told.refused
  pub installed : told.installed ≡ has_installed takes.end.taken

-- ---- where it stops

-- These lists were saved, or the keeper was left alone.
abbrev pub MayHaveSaved : List (List Held) → Keeping → Keeping → Type 0
MayHaveSaved saved before after = (after ≡ before) ⊎ HasSaved saved before after

-- What is saved and written of a round that was made and came to these lists. Where the output failed, nothing is saved; where
-- memory was refused, the lists may be. What is written is then a front of the round's lines, of which something is missing.
-- Where the keeper failed, all lines before that of the store are written.
abbrev pub StopsTelling : RunStop → ℕ → RoundEnd → List Held → (before after : Keeping) → (output output' : Option (List ℕ)) → Type 0
StopsTelling stop.WriteFault number end lists before after output output' =
    (after ≡ before) × HasFront output output' (told_end number lists end)
StopsTelling stop.KeepFault number end lists before after output output' =
    IsTrue (has_installed end.taken) × FailsToSave lists before after × (output' ≡ appended output (round_lines number end))
StopsTelling stop.OutOfMemory number end lists before after output output' =
    MayHaveSaved (saved_after end.taken lists) before after × HasFront output output' (told_end number lists end)

-- A client made a round, and stopped when it told it or saved what it installed.
pub record StopsAtEnd (why : RunStop) (plan : Plan) (number : ℕ) (client : Client) (before after : Seen) : Type 0 where
  pub end : RoundEnd
  pub lists : List Held
  pub waits : WaitState
  pub made : MakesRound (round_state_of client) (round_state lists waits) plan.options plan.target plan.need_digest before.outside after.outside end
  pub stops : StopsTelling why number end lists before.keeper after.keeper before.output after.output

-- Memory was refused within the round. Nothing is written or saved of it.
pub record StopsWithin (plan : Plan) (client : Client) (before after : Seen) : Type 0 where
  pub breaks : BreaksOff client.lists client.waits plan.options plan.target before.outside after.outside
  pub keeper : after.keeper ≡ before.keeper
  pub output : after.output ≡ before.output

-- A client stopped in a round of this number.
abbrev pub StopsRound : RunStop → Plan → ℕ → Client → (before after : Seen) → Type 0
StopsRound stop.WriteFault plan number client before after = StopsAtEnd stop.WriteFault plan number client before after
StopsRound stop.KeepFault plan number client before after = StopsAtEnd stop.KeepFault plan number client before after
StopsRound stop.OutOfMemory plan number client before after =
    StopsWithin plan client before after ⊎ StopsAtEnd stop.OutOfMemory plan number client before after

-- ---- any number of rounds

-- A client made rounds, which are counted from this number on, told them and saved what they installed. What waited before is
-- written before their lines.
pub record TakesRounds (plan : Plan) (number : ℕ) (rounds : List Round) (client client' : Client) (before after : Seen) (refused : Bool) : Type 0 where
  pub made : MakesRounds (round_state_of client) (round_state_of client') plan.options plan.target plan.need_digest before.outside after.outside rounds
  pub saved : HasSaved (saved_lists client.lists rounds) before.keeper after.keeper
  pub text : IsOnItsWay before.output after.output client'.page (client.page ++ rounds_text number client.lists rounds)
  pub refusal : refused ≡ has_refusals client.lists rounds

-- No round is taken where nothing was done.
abbrev pub BeginsSteps : Type 0
BeginsSteps = (plan : Plan) (number : ℕ) (client : Client) (at : Seen) → TakesRounds plan number [] client client at at false

-- After rounds what waits may be written.
abbrev pub GoesOnWriting : Type 0
GoesOnWriting = (plan : Plan) (number : ℕ) (rounds : List Round) (client between client' : Client) (before after : Seen) (output : Option (List ℕ)) (refused : Bool)
    → TakesRounds plan number rounds client between before after refused
    → WritesPage between client' after.output output
    → TakesRounds plan number rounds client client' before (record after { output = output }) refused

-- Rounds and one more are rounds.
abbrev pub GoesOnTaking : Type 0
GoesOnTaking = (plan : Plan) (number : ℕ) (rounds : List Round) (client between client' : Client) (before mid after : Seen) (refused more : Bool)
    → TakesRounds plan number rounds client between before mid refused
    → (takes : TakesRound plan (number + length rounds) between client' mid after more)
    → TakesRounds plan number (rounds ++ takes.made.round ∷ []) client client' before after (refused || more)
