-- How a run that judges URLs can end, and what its report then says.
use Rattle.std.proofs.Common.{◌≡◌, ◌≢◌, ◌⊎◌, ℕ, Bool, true, false, inl, inr, Ok, Err, refl, sym, ap, subst, ◌∙◌}
use Rattle.std.specs.Prelude.{IsErrOf, ◌==◌, if◌then◌else◌}
use Rattle.sb_model.specs.History.{History, IsWellFormed}
use Rattle.sb_model.specs.Naming.{Naming}
use Rattle.sb_outside.specs.Outside.{Rose}
use Rattle.input_lines.specs.Input.{GivesPast}
use Rattle.judge_run.specs.Law.{CasesKeepToWaits}
use Rattle.judge_run.specs.Run.{Judging, JudgeEnding, EndsJudging, EndsOpened}
use Rattle.judge_run.specs.declared.judgement.Judgement.{Judgement}
use Rattle.judge_run.specs.declared.judgement.Outcome.{Outcome}
use Rattle.judge_run.specs.declared.judgement.Outcome.TheVariants.{Safe, Unsafe, Open}
use Rattle.judge_run.specs.declared.plan.JudgePlan.{JudgePlan}
use Rattle.judge_run.specs.declared.stop.JudgeStop.{JudgeStop}
use Rattle.judge_run.specs.declared.stop.JudgeStop.TheVariants.{ReadFault, PastLimits, WriteFault, KeepFault, OutOfMemory}
use Rattle.client_laws.specs.Reports.{JudgedAreComplete, RunsOfVerdictsHold}
use Rattle.client_laws.specs.Saving.{JudgingsSaveReplicas, UpdatesHold}
use Rattle.sb_round.specs.Rounds.{RoundsKeepToWaits}
use Rattle.sb_client.specs.Ending.{judge_status_after, judge_status_of, outcome_status}
use Rattle.sb_client.specs.Judged.{ReportsRightly}
use Rattle.sb_client.specs.Runs.{IsFaultOfStatus, IsJudgeRun, IsStatus}

-- ---- ends have statuses of their own

abbrev stop_with : ℕ → JudgeStop
stop_with status =
    if status == 2 then ReadFault else if status == 3 then WriteFault else if status == 4 then KeepFault
    else if status == 6 then PastLimits else OutOfMemory

known_stop : (stop : JudgeStop) → stop_with (judge_status_after stop) ≡ stop
known_stop ReadFault = refl
known_stop PastLimits = refl
known_stop WriteFault = refl
known_stop KeepFault = refl
known_stop OutOfMemory = refl

-- a status of what URLs come to, or of a refusal
abbrev IsJudged : ℕ → Type 0
IsJudged status = (status ≡ 0) ⊎ (status ≡ 5) ⊎ (status ≡ 20) ⊎ (status ≡ 21)

judged_status : (refused : Bool) (outcome : Outcome) → IsJudged (if refused then 5 else outcome_status outcome)
judged_status true outcome = inr (inl refl)
judged_status false Safe = inl refl
judged_status false Unsafe = inr (inr (inl refl))
judged_status false Open = inr (inr (inr refl))

no_stop : (stop : JudgeStop) (status : ℕ) → status ≡ judge_status_after stop → IsJudged status → ⊥
no_stop ReadFault status told (inl h) = cc
no_stop ReadFault status told (inr (inl h)) = cc
no_stop ReadFault status told (inr (inr (inl h))) = cc
no_stop ReadFault status told (inr (inr (inr h))) = cc
no_stop PastLimits status told (inl h) = cc
no_stop PastLimits status told (inr (inl h)) = cc
no_stop PastLimits status told (inr (inr (inl h))) = cc
no_stop PastLimits status told (inr (inr (inr h))) = cc
no_stop WriteFault status told (inl h) = cc
no_stop WriteFault status told (inr (inl h)) = cc
no_stop WriteFault status told (inr (inr (inl h))) = cc
no_stop WriteFault status told (inr (inr (inr h))) = cc
no_stop KeepFault status told (inl h) = cc
no_stop KeepFault status told (inr (inl h)) = cc
no_stop KeepFault status told (inr (inr (inl h))) = cc
no_stop KeepFault status told (inr (inr (inr h))) = cc
no_stop OutOfMemory status told (inl h) = cc
no_stop OutOfMemory status told (inr (inl h)) = cc
no_stop OutOfMemory status told (inr (inr (inl h))) = cc
no_stop OutOfMemory status told (inr (inr (inr h))) = cc

-- a status that a stop has is of that stop
pub judge_stop_of : (ending : JudgeEnding) (stop : JudgeStop) (status : ℕ) → status ≡ judge_status_of ending → status ≡ judge_status_after stop → IsErrOf ending stop
judge_stop_of (Ok judgement) stop status told h = absurd (no_stop stop status h (subst IsJudged (sym told) (judged_status judgement.refused judgement.outcome)))
judge_stop_of (Err other) stop status told h = ap Err (sym (known_stop other) ∙ ap stop_with (sym told ∙ h) ∙ known_stop stop)

-- a fault that is counted has its status
pub judge_fault_of : {before after : ℕ} (ending : JudgeEnding) (stop : JudgeStop) (status : ℕ) → status ≡ judge_status_of ending
    → (IsErrOf ending stop → Rose before after) → (ending ≢ Err stop → after ≡ before) → IsFaultOfStatus (judge_status_after stop) status before after
judge_fault_of ending stop status told rose kept = record {
  rose = λ h. rose (judge_stop_of ending stop status told h);
  kept = λ other. kept (λ is. other (told ∙ ap judge_status_of is));
}

pub judge_unwritten : {Same : Type 0} (ending : JudgeEnding) (status : ℕ) → status ≡ judge_status_of ending
    → (IsErrOf ending ReadFault → Same) → (IsErrOf ending PastLimits → Same) → (status ≡ 2) ⊎ (status ≡ 6) → Same
judge_unwritten ending status told read past (inl two) = read (judge_stop_of ending ReadFault status told two)
judge_unwritten ending status told read past (inr six) = past (judge_stop_of ending PastLimits status told six)

-- ---- the statuses

judged_known : (status : ℕ) → IsJudged status → IsStatus status × (status ≢ 1)
judged_known status (inl h) = (inl h, λ other. cc)
judged_known status (inr (inl h)) = (inr (inr (inr (inr (inr (inl h))))), λ other. cc)
judged_known status (inr (inr (inl h))) = (inr (inr (inr (inr (inr (inr (inr (inr (inl h)))))))), λ other. cc)
judged_known status (inr (inr (inr h))) = (inr (inr (inr (inr (inr (inr (inr (inr (inr h)))))))), λ other. cc)

pub known_judging : (ending : JudgeEnding) (status : ℕ) → status ≡ judge_status_of ending → IsStatus status × (status ≢ 1)
known_judging (Ok judgement) status told = judged_known status (subst IsJudged (sym told) (judged_status judgement.refused judgement.outcome))
known_judging (Err ReadFault) status told = (inr (inr (inl told)), λ h. cc)
known_judging (Err PastLimits) status told = (inr (inr (inr (inr (inr (inr (inl told)))))), λ h. cc)
known_judging (Err WriteFault) status told = (inr (inr (inr (inl told))), λ h. cc)
known_judging (Err KeepFault) status told = (inr (inr (inr (inr (inl told)))), λ h. cc)
known_judging (Err OutOfMemory) status told = (inr (inr (inr (inr (inr (inr (inr (inl told))))))), λ h. cc)

-- where nothing hinders it, five are left
abbrev AreLeft : ℕ → Type 0
AreLeft status = (status ≡ 0) ⊎ (status ≡ 5) ⊎ (status ≡ 20) ⊎ (status ≡ 21) ⊎ (status ≡ 8)

judged_left : (status : ℕ) → IsJudged status → AreLeft status
judged_left status (inl h) = inl h
judged_left status (inr (inl h)) = inr (inl h)
judged_left status (inr (inr (inl h))) = inr (inr (inl h))
judged_left status (inr (inr (inr h))) = inr (inr (inr (inl h)))

judge_left_by : (plan : JudgePlan) (before after : Judging) (ending : JudgeEnding) (status : ℕ) → status ≡ judge_status_of ending → EndsJudging plan ending before after
    → (status ≡ 2 → ⊥) → (status ≡ 3 → ⊥) → (status ≡ 4 → ⊥) → (GivesPast before.left after.left → ⊥) → AreLeft status
judge_left_by plan before after (Ok judgement) status told done two three four past = judged_left status (subst IsJudged (sym told) (judged_status judgement.refused judgement.outcome))
judge_left_by plan before after (Err ReadFault) status told done two three four past = absurd (two told)
judge_left_by plan before after (Err PastLimits) status told done two three four past = absurd (past done.0)
judge_left_by plan before after (Err WriteFault) status told done two three four past = absurd (three told)
judge_left_by plan before after (Err KeepFault) status told done two three four past = absurd (four told)
judge_left_by plan before after (Err OutOfMemory) status told done two three four past = inr (inr (inr (inr told)))

pub left_to_judge : {plan : JudgePlan} {status : ℕ} {before after : Judging} → IsJudgeRun plan status before after
    → (status ≡ 2 → ⊥) → (status ≡ 3 → ⊥) → (status ≡ 4 → ⊥) → (GivesPast before.left after.left → ⊥) → AreLeft status
left_to_judge {plan = plan} {status = status} {before = before} {after = after} run two three four past =
    judge_left_by plan before after run.ending status run.told run.done two three four past

-- where memory was refused before anything was done
pub judge_not_begun : (plan : JudgePlan) (at : Judging) → IsJudgeRun plan 8 at at
judge_not_begun plan at = record {
  ending = Err OutOfMemory;
  told = refl;
  done = inl refl;
}

-- ---- the report

judged_by : (plan : JudgePlan) (before after : Judging) (ending : JudgeEnding) (status : ℕ) → status ≡ judge_status_of ending → EndsJudging plan ending before after
    → IsJudged status → (judgement : Judgement) × EndsOpened plan (Ok judgement) before after × (status ≡ judge_status_of (Ok judgement))
judged_by plan before after (Ok judgement) status told done end = (judgement, done, told)
judged_by plan before after (Err stop) status told done end = absurd (no_stop stop status told end)

pub reports_rightly : (law : RunsOfVerdictsHold) (rounds : RoundsKeepToWaits) (waits : CasesKeepToWaits) (complete : JudgedAreComplete) (history : History) (token_at : Naming) (plan : JudgePlan) (status : ℕ) (before after : Judging)
    → IsJudgeRun plan status before after → IsWellFormed history → IsJudged status → ReportsRightly history token_at plan status before after
reports_rightly law rounds waits complete history token_at plan status before after run formed end =
    let judged = judged_by plan before after run.ending status run.told run.done end in
    let whole = judged.1 in
    let judges = whole.ends.judges.judged.judges in
    record {
      judgement = judged.0;
      run = whole;
      told = judged.2;
      update_waits = rounds _ _ plan.updates.options plan.updates.target plan.updates.need_digest whole.ends.updated.rounds whole.ends.updated.made.are;
      waits = waits plan _ _ _ judges.cases judges.are;
      complete = complete plan _ _ _ _ _ _ _ judges;
      holds = λ safe honest. law history token_at plan judged.0 before after whole formed safe honest;
    }

-- ---- what is saved

pub updates_hold : (law : JudgingsSaveReplicas) (plan : JudgePlan) (status : ℕ) (before after : Judging) → IsJudgeRun plan status before after → UpdatesHold plan before after
updates_hold law plan status before after run = law plan run.ending before after run.done
