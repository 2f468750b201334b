-- The laws of verdicts over whole runs.
use Rattle.std.specs.Prelude.{◌≡◌, ℕ, List, [], ◌∷◌, ◌++◌, Ok}
use Rattle.sb_model.specs.History.{History, IsWellFormed}
use Rattle.sb_model.specs.Naming.{Naming}
use Rattle.sb_outside.specs.Outside.{appended}
use Rattle.snapshot_publish.specs.Publications.{Publications}
use Rattle.update_client.specs.Replica.{AreReplicas}
use Rattle.wait_rules.specs.declared.waits.WaitState.{WaitState}
use Rattle.timed_sessions.specs.Told.{Outside}
use Rattle.input_lines.specs.Lines.{lines_of}
use Rattle.update_run.specs.Opening.{first_lists}
use Rattle.update_run.specs.Printed.{told_rounds}
use Rattle.client_laws.specs.Met.{AreHonestRounds}
use Rattle.client_laws.specs.Replicas.{IsKeptSafely}
use Rattle.verdict_report.specs.Printed.{report_lines, summary_text}
use Rattle.verdict_report.specs.declared.verdicts.Judged.{Judged}
use Rattle.url_checker.specs.declared.finds.Finds.{Finds}
use Rattle.judge_run.specs.Judging.{Case, AreCases, JudgesLines, first_finds, judged_of_all}
use Rattle.judge_run.specs.Run.{Judging, EndsOpened, publications_of}
use Rattle.judge_run.specs.declared.judgement.Judgement.{Judgement}
use Rattle.judge_run.specs.declared.plan.JudgePlan.{JudgePlan}
use Rattle.client_laws.specs.Complete.{AreComplete}
use Rattle.client_laws.specs.Verdicts.{VerdictsHold}

-- The lists of each publication are replicas of a server's lists.
abbrev pub ArePublishedReplicas : History → Naming → Publications → Type 0
ArePublishedReplicas history token_at [] = Unit {0}
ArePublishedReplicas history token_at (lists ∷ more) = AreReplicas history token_at lists × ArePublishedReplicas history token_at more

-- Each verdict holds of lines that were judged in order on publications of replicas, from no kept answers on.
abbrev pub RowsOfVerdictsHold : Type 0
RowsOfVerdictsHold = (history : History) (token_at : Naming) (plan : JudgePlan) (published : Publications) (waits : WaitState) (lines : List (List ℕ)) (cases : List Case)
    → IsWellFormed history → ArePublishedReplicas history token_at published → AreCases plan published (first_finds waits) lines cases
    → VerdictsHold history token_at published (first_finds waits) [] lines cases (judged_of_all published (first_finds waits) cases)

-- So it is of each verdict of lines that are seen to have been judged so, those too of a run that stopped later.
abbrev pub JudgedVerdictsHold : Type 0
JudgedVerdictsHold = (history : History) (token_at : Naming) (plan : JudgePlan) (published : Publications) (waits : WaitState) (finds : Finds)
    (before after : Outside) (lines : List (List ℕ)) (all : List Judged)
    (judges : JudgesLines plan published (first_finds waits) finds before after lines all)
    → IsWellFormed history → ArePublishedReplicas history token_at published
    → VerdictsHold history token_at published (first_finds waits) [] lines judges.cases all

-- ---- a run that came to its end

-- the publications of a run
abbrev pub publications_in : {plan : JudgePlan} {judgement : Judgement} {before after : Judging} → EndsOpened plan (Ok judgement) before after → Publications
publications_in {plan = plan} run = publications_of (first_lists plan.updates.names run.begins.kept) run.ends.updated.rounds

-- The lists of each publication of a run are replicas, and of the lines of its input each verdict holds, on the publication that it names, by
-- the run's own cases. These verdicts are what was printed: one line for each, counted from 1, behind the lines of the rounds and before
-- the summary.
pub record ReportHolds (history : History) (token_at : Naming) (plan : JudgePlan) (judgement : Judgement) (before after : Judging) (run : EndsOpened plan (Ok judgement) before after) : Type 0 where
  pub published : ArePublishedReplicas history token_at (publications_in run)
  pub hold : VerdictsHold history token_at (publications_in run) (first_finds run.begins.finds) [] (lines_of run.begins.input) run.ends.judges.judged.judges.cases run.ends.judges.all
  pub text : after.seen.output ≡ appended before.seen.output
      (told_rounds run.begins.kept (first_lists plan.updates.names run.begins.kept) run.ends.updated.rounds ++ (report_lines 1 run.ends.judges.all ++ summary_text run.ends.judges.all))

-- The report of a run holds that came to its end, where what was kept is no store, or reads as replicas, or nothing was kept, and the rounds
-- that it made met an honest server.
abbrev pub RunsOfVerdictsHold : Type 0
RunsOfVerdictsHold = (history : History) (token_at : Naming) (plan : JudgePlan) (judgement : Judgement) (before after : Judging) (run : EndsOpened plan (Ok judgement) before after)
    → IsWellFormed history → IsKeptSafely history token_at run.begins.kept
    → AreHonestRounds history token_at (first_lists plan.updates.names run.begins.kept) run.ends.updated.rounds
    → ReportHolds history token_at plan judgement before after run

-- ---- what is left open

-- Each verdict of lines that are seen to have been judged in order is decided if its finding was answered, and else names its cause.
abbrev pub JudgedAreComplete : Type 0
JudgedAreComplete = (plan : JudgePlan) (published : Publications) (finds finds' : Finds) (before after : Outside)
    (lines : List (List ℕ)) (all : List Judged) (judges : JudgesLines plan published finds finds' before after lines all)
    → AreComplete plan published finds judges.cases all
