-- A run of a client: it begins with what its keeper kept, makes rounds of updates, saves its lists after each round that
-- installed one, and prints what became of all.
use Rattle.std.specs.Prelude.{◌≡◌, ◌⊎◌, ℕ, ◌≤◌, ◌<◌, nat_lt, if◌then◌else◌, Bool, List, [], ◌∷◌, ◌++◌, length, Option, IfSome, Result, Ok, Err}
use Rattle.sb_model.specs.declared.names.ListName.{ListName}
use Rattle.sb_outside.specs.Outside.{appended}
use Rattle.sb_outside.specs.Writing.{HasFront}
use Rattle.update_client.specs.Held.{Held}
use Rattle.wait_rules.specs.declared.waits.WaitState.{WaitState}
use Rattle.timed_sessions.specs.Told.{Outside}
use Rattle.sb_round.specs.Round.{Round, round_state, BreaksOff}
use Rattle.sb_round.specs.Rounds.{MakesRounds}
use Rattle.update_run.specs.Opening.{first_lists, HasOpened}
use Rattle.update_run.specs.Saved.{Keeping, HasSaved, FailsToSave, saved_lists, MayLackLast}
use Rattle.update_run.specs.Printed.{told_rounds, run_text, saved_line, not_answered_lines, has_refusals}
use Rattle.update_run.specs.declared.plan.Plan.{Plan}
use Rattle.update_run.specs.declared.stop.RunStop.{RunStop}
use Rattle.update_run.specs.declared.stop.RunStop.TheVariants as stop

-- What is seen of a run at one moment: what the link, the clock and the dice tell, what the keeper tells, and what was written.
pub record Seen : Type 0 where
  pub outside : Outside
  pub keeper : Keeping
  pub output : Option (List ℕ)

abbrev pub seen : Outside → Keeping → Option (List ℕ) → Seen
seen outside keeper output = record { outside = outside; keeper = keeper; output = output }

-- Where this text was kept, or none, the clock was read, a word was drawn, and these rounds were made. So each session
-- asks for the lists that those before it left, begins at or after its allowed moment, and is in the link's log.
pub record HasMade (plan : Plan) (kept : Option (List ℕ)) (rounds : List Round) (before after : Outside) : Type 0 where
  pub waits : WaitState
  pub opened : Outside
  pub opens : HasOpened waits before opened
  pub lists : List Held
  pub waits_now : WaitState
  pub made : MakesRounds (round_state (first_lists plan.names kept) waits) (round_state lists waits_now) plan.options plan.target plan.need_digest opened after rounds

-- The keeper gave this text, or none.
abbrev pub IsLoaded : Option (List ℕ) → Option (Option (List ℕ)) → Type 0
IsLoaded kept known = IfSome known (λ text. kept ≡ text)

-- A run came to its end: all rounds were made, each set that was installed is saved, and the whole text is written. It
-- tells of a refusal or of none.
pub record IsRun (plan : Plan) (refused : Bool) (before after : Seen) : Type 0 where
  pub kept : Option (List ℕ)
  pub loaded : IsLoaded kept before.keeper.kept
  pub rounds : List Round
  pub all : length rounds ≡ plan.rounds
  pub made : HasMade plan kept rounds before.outside after.outside
  pub saved : HasSaved (saved_lists (first_lists plan.names kept) rounds) before.keeper after.keeper
  pub text : after.output ≡ appended before.output (run_text kept (first_lists plan.names kept) rounds)
  pub refusal : refused ≡ has_refusals (first_lists plan.names kept) rounds

-- ---- one that did not

-- Nothing but the keeper was looked at.
abbrev pub HasNotBegun : Seen → Seen → Type 0
HasNotBegun before after = after ≡ before

-- The keeper failed when the lists of the last round were handed in. All before it is saved, and what is written lacks
-- only the line that tells so of this round, and those of the lists behind it for which the answer had no update.
pub record StopsAtSave (plan : Plan) (before after : Seen) : Type 0 where
  pub kept : Option (List ℕ)
  pub loaded : IsLoaded kept before.keeper.kept
  pub rounds : List Round
  pub few : length rounds ≤ plan.rounds
  pub made : HasMade plan kept rounds before.outside after.outside
  pub earlier : List (List Held)
  pub last : List Held
  pub saves : saved_lists (first_lists plan.names kept) rounds ≡ earlier ++ last ∷ []
  pub between : Keeping
  pub saved : HasSaved earlier before.keeper between
  pub fails : FailsToSave last between after.keeper
  pub written : List ℕ
  pub text : after.output ≡ appended before.output written
  pub unanswered : List ListName
  pub lacks : written ++ saved_line (length rounds) ++ not_answered_lines (length rounds) unanswered ≡ told_rounds kept (first_lists plan.names kept) rounds

-- the text up to where a run stopped after these rounds: the lines of the rounds, and only after the last round those of the lists
abbrev pub text_to_stop : ℕ → Option (List ℕ) → List Held → List Round → List ℕ
text_to_stop all kept lists rounds =
    if nat_lt (length rounds) all then told_rounds kept lists rounds else run_text kept lists rounds

-- After some rounds the run stopped. What the last of them installed may not be saved, and what is written is a front of
-- the text up to there, of which something is missing.
pub record StopsAfter (plan : Plan) (before after : Seen) : Type 0 where
  pub kept : Option (List ℕ)
  pub loaded : IsLoaded kept before.keeper.kept
  pub rounds : List Round
  pub few : length rounds ≤ plan.rounds
  pub made : HasMade plan kept rounds before.outside after.outside
  pub stores : List (List Held)
  pub most : MayLackLast (saved_lists (first_lists plan.names kept) rounds) stores
  pub saved : HasSaved stores before.keeper after.keeper
  pub front : HasFront before.output after.output (text_to_stop plan.rounds kept (first_lists plan.names kept) rounds)

-- After some rounds a further one was broken off. All before it is saved and written.
pub record BreaksOffAfter (plan : Plan) (before after : Seen) : Type 0 where
  pub kept : Option (List ℕ)
  pub loaded : IsLoaded kept before.keeper.kept
  pub rounds : List Round
  pub further : length rounds < plan.rounds
  pub between : Outside
  pub made : HasMade plan kept rounds before.outside between
  pub breaks : BreaksOff made.lists made.waits_now plan.options plan.target between after.outside
  pub saved : HasSaved (saved_lists (first_lists plan.names kept) rounds) before.keeper after.keeper
  pub text : after.output ≡ appended before.output (told_rounds kept (first_lists plan.names kept) rounds)

-- Memory was refused: before the clock was read, after some rounds, or within one.
abbrev pub StopsForMemory : Plan → Seen → Seen → Type 0
StopsForMemory plan before after = HasNotBegun before after ⊎ StopsAfter plan before after ⊎ BreaksOffAfter plan before after

-- The keeper failed: when it was to give what it keeps, or when it was to keep something.
abbrev pub StopsAtKeeper : Plan → Seen → Seen → Type 0
StopsAtKeeper plan before after = HasNotBegun before after ⊎ StopsAtSave plan before after

-- ---- how a run ends

-- It came to its end, and told of a refusal or of none, or it stopped before.
abbrev pub RunEnding : Type 0
RunEnding = Result Bool RunStop

abbrev pub EndsRun : Plan → RunEnding → (before after : Seen) → Type 0
EndsRun plan (Ok refused) before after = IsRun plan refused before after
EndsRun plan (Err stop.WriteFault) before after = StopsAfter plan before after
EndsRun plan (Err stop.KeepFault) before after = StopsAtKeeper plan before after
EndsRun plan (Err stop.OutOfMemory) before after = StopsForMemory plan before after
