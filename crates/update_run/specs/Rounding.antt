-- What is known of a run on the way through it.
use Rattle.std.specs.Prelude.{◌≡◌, ◌⊎◌, ◌≤◌, ◌<◌, ℕ, nat_lt, if◌then◌else◌, Bool, List, [], ◌∷◌, ◌++◌, length, map, Option, Ok, Err}
use Rattle.std.specs.List.{flat_map}
use Rattle.sb_model.specs.declared.names.ListName.{ListName}
use Rattle.sb_outside.specs.Outside.{appended}
use Rattle.sb_outside.specs.Writing.{HasFront}
use Rattle.update_client.specs.Held.{Held}
use Rattle.wait_rules.specs.declared.waits.WaitState.{WaitState}
use Rattle.timed_sessions.specs.Told.{Outside}
use Rattle.sb_round.specs.Round.{Round, round_state, BreaksOff}
use Rattle.sb_round.specs.Rounds.{MakesRounds, round_updates}
use Rattle.sb_round.specs.Run.{lists_after}
use Rattle.update_run.specs.Printed.{list_line, saved_line, not_answered_lines, has_refusals, rounds_text}
use Rattle.update_run.specs.Run.{Seen, RunEnding}
use Rattle.update_run.specs.Saved.{Keeping, HasSaved, FailsToSave, MayLackLast, saved_lists}
use Rattle.update_run.specs.Steps.{round_state_of, MayHaveSaved, WritesPage, TakesRound, StopsRound, TakesRounds}
use Rattle.update_run.specs.declared.client.Client.{Client}
use Rattle.update_run.specs.declared.plan.Plan.{Plan}
use Rattle.update_run.specs.declared.stop.RunStop.{RunStop}
use Rattle.update_run.specs.declared.stop.RunStop.TheVariants as stop

-- ---- saving

-- Lists were not handed in, or the line that tells so could not be made. So much text waited before.
abbrev pub StopsSaving : RunStop → ℕ → List Held → (before after : Keeping) → (output output' : Option (List ℕ)) → List ℕ → Type 0
StopsSaving stop.WriteFault number lists before after output output' waiting =
    (after ≡ before) × HasFront output output' (waiting ++ saved_line number)
StopsSaving stop.KeepFault number lists before after output output' waiting =
    FailsToSave lists before after × (output' ≡ appended output waiting)
StopsSaving stop.OutOfMemory number lists before after output output' waiting =
    MayHaveSaved (lists ∷ []) before after × HasFront output output' (waiting ++ saved_line number)

-- ---- one round, after what waits

-- What waited was written, and then a round was taken.
pub record WritesAndTakes (plan : Plan) (number : ℕ) (client client' : Client) (before after : Seen) (refused : Bool) : Type 0 where
  pub between : Client
  pub output : Option (List ℕ)
  pub writes : WritesPage client between before.output output
  pub takes : TakesRound plan number between client' (record before { output = output }) after refused

-- What waited was written, and then the client stopped in the round.
pub record WritesAndStops (why : RunStop) (plan : Plan) (number : ℕ) (client : Client) (before after : Seen) : Type 0 where
  pub between : Client
  pub output : Option (List ℕ)
  pub writes : WritesPage client between before.output output
  pub stops : StopsRound why plan number between (record before { output = output }) after

-- It stopped before the round: what waited could not be written.
pub record StopsAtStart (why : RunStop) (client : Client) (before after : Seen) : Type 0 where
  pub output : why ≡ stop.WriteFault
  pub outside : after.outside ≡ before.outside
  pub keeper : after.keeper ≡ before.keeper
  pub front : HasFront before.output after.output client.page

abbrev pub StopsOneRound : RunStop → Plan → ℕ → Client → (before after : Seen) → Type 0
StopsOneRound why plan number client before after =
    StopsAtStart why client before after ⊎ WritesAndStops why plan number client before after

-- ---- the rounds of a run

-- the text of rounds that a client made, after what waited before them
abbrev pub text_so_far : Client → List Round → List ℕ
text_so_far client rounds = client.page ++ rounds_text 1 client.lists rounds

-- the same, and the lines of the lists that they led to
abbrev pub whole_text : Client → List Round → List ℕ
whole_text client rounds = text_so_far client rounds ++ flat_map list_line (lists_after client.lists (map round_updates rounds))

-- the text up to where a client stopped after these rounds, of so many
abbrev pub text_until : ℕ → Client → List Round → List ℕ
text_until all client rounds = if nat_lt (length rounds) all then text_so_far client rounds else whole_text client rounds

pub record TakesAllRounds (plan : Plan) (client client' : Client) (before after : Seen) (refused : Bool) : Type 0 where
  pub rounds : List Round
  pub all : length rounds ≡ plan.rounds
  pub takes : TakesRounds plan 1 rounds client client' before after refused

-- After some rounds the client stopped, where the keeper did not fail. What is written is a front of this text of them, of which something
-- is missing.
pub record StopsAfterRounds (plan : Plan) (client : Client) (text : List Round → List ℕ) (before after : Seen) : Type 0 where
  pub rounds : List Round
  pub few : length rounds ≤ plan.rounds
  pub lists : List Held
  pub waits : WaitState
  pub made : MakesRounds (round_state_of client) (round_state lists waits) plan.options plan.target plan.need_digest before.outside after.outside rounds
  pub stores : List (List Held)
  pub most : MayLackLast (saved_lists client.lists rounds) stores
  pub saved : HasSaved stores before.keeper after.keeper
  pub front : HasFront before.output after.output (text rounds)

-- After some rounds a further one was broken off.
pub record BreaksOffAfterRounds (plan : Plan) (client : Client) (before after : Seen) : Type 0 where
  pub rounds : List Round
  pub further : length rounds < plan.rounds
  pub between : Outside
  pub lists : List Held
  pub waits : WaitState
  pub made : MakesRounds (round_state_of client) (round_state lists waits) plan.options plan.target plan.need_digest before.outside between rounds
  pub breaks : BreaksOff lists waits plan.options plan.target between after.outside
  pub saved : HasSaved (saved_lists client.lists rounds) before.keeper after.keeper
  pub text : after.output ≡ appended before.output (text_so_far client rounds)

-- The keeper failed when it was handed what the last round installed.
pub record FailsAfterRounds (plan : Plan) (client : Client) (before after : Seen) : Type 0 where
  pub rounds : List Round
  pub few : length rounds ≤ plan.rounds
  pub lists : List Held
  pub waits : WaitState
  pub made : MakesRounds (round_state_of client) (round_state lists waits) plan.options plan.target plan.need_digest before.outside after.outside rounds
  pub earlier : List (List Held)
  pub last : List Held
  pub saves : saved_lists client.lists rounds ≡ earlier ++ last ∷ []
  pub between : Keeping
  pub saved : HasSaved earlier before.keeper between
  pub fails : FailsToSave last between after.keeper
  pub written : List ℕ
  pub text : after.output ≡ appended before.output written
  pub unanswered : List ListName
  pub lacks : written ++ saved_line (length rounds) ++ not_answered_lines (length rounds) unanswered ≡ text_so_far client rounds

-- A client stopped after some rounds, of which this was to be written, or in one.
abbrev pub StopsRounds : RunStop → Plan → Client → (text : List Round → List ℕ) → (before after : Seen) → Type 0
StopsRounds stop.WriteFault plan client text before after = StopsAfterRounds plan client text before after
StopsRounds stop.KeepFault plan client text before after = FailsAfterRounds plan client before after
StopsRounds stop.OutOfMemory plan client text before after =
    StopsAfterRounds plan client text before after ⊎ BreaksOffAfterRounds plan client before after

-- ---- rounds, and the lists at the end

-- A client made all rounds, and told of its lists.
pub record EndsRounds (plan : Plan) (client : Client) (refused : Bool) (before after : Seen) : Type 0 where
  pub rounds : List Round
  pub all : length rounds ≡ plan.rounds
  pub lists : List Held
  pub waits : WaitState
  pub made : MakesRounds (round_state_of client) (round_state lists waits) plan.options plan.target plan.need_digest before.outside after.outside rounds
  pub saved : HasSaved (saved_lists client.lists rounds) before.keeper after.keeper
  pub text : after.output ≡ appended before.output (whole_text client rounds)
  pub refusal : refused ≡ has_refusals client.lists rounds

abbrev pub EndsFrom : Plan → RunEnding → Client → (before after : Seen) → Type 0
EndsFrom plan (Ok refused) client before after = EndsRounds plan client refused before after
EndsFrom plan (Err why) client before after = StopsRounds why plan client (text_until plan.rounds client) before after
