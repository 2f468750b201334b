-- A run that judges URLs: it reads them whole, begins with the lists that its keeper kept, makes rounds of updates while the URLs are
-- checked, saves and publishes what each round installed, and then judges each URL by the publication that its check names, and prints a
-- report.
use Rattle.std.specs.Prelude.{◌≡◌, ◌⊎◌, ◌≤◌, ℕ, List, [], ◌∷◌, ◌++◌, length, map, Option, Result, Ok, Err}
use Rattle.sb_outside.specs.Outside.{appended}
use Rattle.sb_outside.specs.Writing.{HasFront}
use Rattle.sb_round.specs.Round.{Round, RoundState}
use Rattle.sb_round.specs.Rounds.{MakesRounds}
use Rattle.update_client.specs.Held.{Held}
use Rattle.snapshot_publish.specs.Publications.{Publications}
use Rattle.wait_rules.specs.declared.waits.WaitState.{WaitState}
use Rattle.timed_sessions.specs.Told.{Outside}
use Rattle.input_lines.specs.Lines.{lines_of}
use Rattle.input_lines.specs.Input.{GivesWithin, GivesPast}
use Rattle.update_run.specs.Opening.{first_lists}
use Rattle.update_run.specs.Printed.{ignored_text, has_refusals}
use Rattle.update_run.specs.Rounding.{text_so_far}
use Rattle.update_run.specs.Run.{Seen, IsLoaded}
use Rattle.update_run.specs.Saved.{HasSaved, saved_lists}
use Rattle.update_run.specs.Steps.{round_state_of}
use Rattle.update_run.specs.declared.client.Client.{Client}
use Rattle.update_run.specs.declared.stop.RunStop.{RunStop}
use Rattle.update_run.specs.declared.stop.RunStop.TheVariants as run
use Rattle.verdict_report.specs.declared.verdicts.Judged.{Judged}
use Rattle.judge_run.specs.Beside.{StopsBeside}
use Rattle.judge_run.specs.Checked.{NumbersNeverFall}
use Rattle.judge_run.specs.Judging.{check_of, first_finds, HasJudged, StopsJudging}
use Rattle.judge_run.specs.Opening.{OpensFinds, ReadsWhole}
use Rattle.judge_run.specs.Printed.{report_text, outcome_of_all}
use Rattle.judge_run.specs.declared.judgement.Judgement.{Judgement}
use Rattle.judge_run.specs.declared.judgement.Outcome.{Outcome}
use Rattle.judge_run.specs.declared.plan.JudgePlan.{JudgePlan}
use Rattle.judge_run.specs.declared.stop.JudgeStop.{JudgeStop}
use Rattle.judge_run.specs.declared.stop.JudgeStop.TheVariants as stop

-- What is seen of a judging at one moment: what its input has left, and what is seen of a run.
pub record Judging : Type 0 where
  pub left : Option (List (List ℕ))
  pub seen : Seen

abbrev pub judging : Option (List (List ℕ)) → Seen → Judging
judging left seen = record { left = left; seen = seen }

-- It came to its end, or stopped before.
abbrev pub JudgeEnding : Type 0
JudgeEnding = Result Judgement JudgeStop

-- ---- from publications and the first wait of finds on

-- All lines were judged, no check of a worker's lines on an older publication than one before it, and what waited and the report are
-- written. This is what the URLs come to.
pub record JudgesAll (plan : JudgePlan) (outcome : Outcome) (published : Publications) (finds : WaitState) (waiting : List ℕ) (lines : List (List ℕ)) (before after : Seen) : Type 0 where
  pub all : List Judged
  pub judged : HasJudged plan published finds before.outside after.outside lines all
  pub never_fall : NumbersNeverFall plan.workers (map check_of judged.judges.cases)
  pub keeper : after.keeper ≡ before.keeper
  pub text : after.output ≡ appended before.output (waiting ++ report_text all)
  pub is : outcome ≡ outcome_of_all all

-- All lines were judged, and a front of the text is written, of which something is missing.
pub record StopsReporting (plan : JudgePlan) (published : Publications) (finds : WaitState) (waiting : List ℕ) (lines : List (List ℕ)) (before after : Seen) : Type 0 where
  pub all : List Judged
  pub judged : HasJudged plan published finds before.outside after.outside lines all
  pub keeper : after.keeper ≡ before.keeper
  pub front : HasFront before.output after.output (waiting ++ report_text all)

-- No line was judged, and a front of what waited is written, of which something is missing.
pub record StopsAtWaiting (waiting : List ℕ) (before after : Seen) : Type 0 where
  pub outside : after.outside ≡ before.outside
  pub keeper : after.keeper ≡ before.keeper
  pub front : HasFront before.output after.output waiting

-- What waited is written, and the judging was broken off.
pub record StopsAmong (plan : JudgePlan) (published : Publications) (finds : WaitState) (waiting : List ℕ) (lines : List (List ℕ)) (before after : Seen) : Type 0 where
  pub stops : StopsJudging plan published (first_finds finds) before.outside after.outside lines
  pub keeper : after.keeper ≡ before.keeper
  pub text : after.output ≡ appended before.output waiting

abbrev pub EndsReporting : JudgePlan → JudgeEnding → Publications → WaitState → List ℕ → List (List ℕ) → (before after : Seen) → Type 0
EndsReporting plan (Ok judgement) published finds waiting lines before after =
    JudgesAll plan judgement.outcome published finds waiting lines before after
EndsReporting plan (Err stop.WriteFault) published finds waiting lines before after =
    StopsAtWaiting waiting before after ⊎ StopsReporting plan published finds waiting lines before after
EndsReporting plan (Err stop.OutOfMemory) published finds waiting lines before after =
    StopsAmong plan published finds waiting lines before after ⊎ StopsReporting plan published finds waiting lines before after
EndsReporting plan (Err stop.ReadFault) published finds waiting lines before after = ⊥
EndsReporting plan (Err stop.PastLimits) published finds waiting lines before after = ⊥
EndsReporting plan (Err stop.KeepFault) published finds waiting lines before after = ⊥

-- ---- from a client and the first wait of its finds on

-- The lists that a client begins with are publication 0, and each round that installed a list publishes what it led to.
abbrev pub publications_of : List Held → List Round → Publications
publications_of lists rounds = lists ∷ saved_lists lists rounds

-- All rounds of a plan were made, and each set that they installed is saved. Their text is taken as waiting still. The link counts as many
-- faults as before, or more. Where no round was to be made, nothing was done.
pub record Updated (plan : JudgePlan) (client : Client) (before between : Seen) : Type 0 where
  pub rounds : List Round
  pub all : length rounds ≡ plan.updates.rounds
  pub state : RoundState
  pub made : MakesRounds (round_state_of client) state plan.updates.options plan.updates.target plan.updates.need_digest before.outside between.outside rounds
  pub saved : HasSaved (saved_lists client.lists rounds) before.keeper between.keeper
  pub waiting : between.output ≡ before.output
  pub counted : before.outside.faults ≤ between.outside.faults
  pub idle : plan.updates.rounds ≡ 0 → between ≡ before

-- The rounds were made, each line was judged by its check on one of their publications, and all text is written: that of the rounds, and
-- the report.
pub record JudgesUpdated (plan : JudgePlan) (judgement : Judgement) (client : Client) (finds : WaitState) (lines : List (List ℕ)) (before after : Seen) : Type 0 where
  pub between : Seen
  pub updated : Updated plan client before between
  pub judges : JudgesAll plan judgement.outcome (publications_of client.lists updated.rounds) finds (text_so_far client updated.rounds) lines between after
  pub refused : judgement.refused ≡ has_refusals client.lists updated.rounds

-- It stopped in the rounds, or for want of memory once they were made. Where no round was to be made, nothing was done.
pub record StopsAmongRounds (why : RunStop) (plan : JudgePlan) (client : Client) (before after : Seen) : Type 0 where
  pub client' : Client
  pub published' : Publications
  pub stops : StopsBeside why plan.updates client client' (client.lists ∷ []) published' before after
  pub counted : before.outside.faults ≤ after.outside.faults
  pub idle : plan.updates.rounds ≡ 0 → after ≡ before

-- The rounds were made, and it stopped as a run does that judges on their publications.
pub record StopsUpdated (why : JudgeStop) (plan : JudgePlan) (client : Client) (finds : WaitState) (lines : List (List ℕ)) (before after : Seen) : Type 0 where
  pub between : Seen
  pub updated : Updated plan client before between
  pub stops : EndsReporting plan (Err why) (publications_of client.lists updated.rounds) finds (text_so_far client updated.rounds) lines between after

abbrev pub EndsUpdating : JudgePlan → JudgeEnding → Client → WaitState → List (List ℕ) → (before after : Seen) → Type 0
EndsUpdating plan (Ok judgement) client finds lines before after = JudgesUpdated plan judgement client finds lines before after
EndsUpdating plan (Err stop.WriteFault) client finds lines before after =
    StopsAmongRounds run.WriteFault plan client before after ⊎ StopsUpdated stop.WriteFault plan client finds lines before after
EndsUpdating plan (Err stop.KeepFault) client finds lines before after = StopsAmongRounds run.KeepFault plan client before after
EndsUpdating plan (Err stop.OutOfMemory) client finds lines before after =
    (after ≡ before)
    ⊎ StopsAmongRounds run.OutOfMemory plan client before after
    ⊎ StopsUpdated stop.OutOfMemory plan client finds lines before after
EndsUpdating plan (Err stop.ReadFault) client finds lines before after = ⊥
EndsUpdating plan (Err stop.PastLimits) client finds lines before after = ⊥

-- ---- the whole run

-- The input was read whole, what the keeper keeps was loaded, the clock was read, and the words of the first update's wait and of the
-- first find's were drawn.
pub record Opened (before : Judging) (left : Option (List (List ℕ))) : Type 0 where
  pub input : List ℕ
  pub reads : ReadsWhole input before.left left
  pub kept : Option (List ℕ)
  pub loaded : IsLoaded kept before.seen.keeper.kept
  pub updates : WaitState
  pub finds : WaitState
  pub outside : Outside
  pub opens : OpensFinds updates finds before.seen.outside outside

-- the client that a run begins with, where this was kept
abbrev pub client_at : JudgePlan → Option (List ℕ) → WaitState → Client
client_at plan kept updates = record { lists = first_lists plan.updates.names kept; waits = updates; page = ignored_text kept }

-- A run began, and this is how it ended.
pub record EndsOpened (plan : JudgePlan) (ending : JudgeEnding) (before after : Judging) : Type 0 where
  pub begins : Opened before after.left
  pub ends : EndsUpdating plan ending (client_at plan begins.kept begins.updates) begins.finds (lines_of begins.input)
      (record before.seen { outside = begins.outside }) after.seen

-- Where it did not begin, nothing but the input was read, and nothing was written.
abbrev pub EndsJudging : JudgePlan → JudgeEnding → (before after : Judging) → Type 0
EndsJudging plan (Ok judgement) before after = EndsOpened plan (Ok judgement) before after
EndsJudging plan (Err stop.ReadFault) before after = GivesWithin before.left after.left × (after.seen ≡ before.seen)
EndsJudging plan (Err stop.PastLimits) before after = GivesPast before.left after.left × (after.seen ≡ before.seen)
EndsJudging plan (Err stop.KeepFault) before after =
    (((text : List ℕ) × ReadsWhole text before.left after.left) × (after.seen ≡ before.seen)) ⊎ EndsOpened plan (Err stop.KeepFault) before after
EndsJudging plan (Err stop.WriteFault) before after = EndsOpened plan (Err stop.WriteFault) before after
EndsJudging plan (Err stop.OutOfMemory) before after = (after.seen ≡ before.seen) ⊎ EndsOpened plan (Err stop.OutOfMemory) before after
