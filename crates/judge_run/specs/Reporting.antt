-- The report of URLs that were judged, while it is made: its lines in pages, and its counts.
use Rattle.std.specs.Prelude.{◌≡◌, ℕ, List, ◌++◌}
use Rattle.std.specs.List.{concat}
use Rattle.snapshot_publish.specs.Publications.{Publications}
use Rattle.wait_rules.specs.declared.waits.WaitState.{WaitState}
use Rattle.timed_sessions.specs.Told.{Outside}
use Rattle.verdict_report.specs.Printed.{counts_of, report_lines}
use Rattle.verdict_report.specs.declared.verdicts.Judged.{Judged}
use Rattle.url_checker.specs.declared.finds.Finds.{Finds}
use Rattle.judge_run.specs.Judging.{JudgesLines, HasJudged}
use Rattle.judge_run.specs.declared.plan.JudgePlan.{JudgePlan}
use Rattle.judge_run.specs.declared.report.Report.{Report}

-- the text of the pages, in order
abbrev pub pages_text : Report → List ℕ
pages_text report = concat report.full ++ report.page

-- The report of these URLs: the line of each, and how many there are of each kind.
pub record IsReport (report : Report) (all : List Judged) : Type 0 where
  pub text : pages_text report ≡ report_lines 1 all
  pub counts : report.counts ≡ counts_of all

-- URLs were judged in order, and this is their report.
pub record ReportsLines (plan : JudgePlan) (published : Publications) (finds finds' : Finds) (before after : Outside) (lines : List (List ℕ)) (report : Report) : Type 0 where
  pub all : List Judged
  pub report_is : IsReport report all
  pub judges : JudgesLines plan published finds finds' before after lines all

-- The same from no kept answer on.
pub record HasReported (plan : JudgePlan) (published : Publications) (waits : WaitState) (before after : Outside) (lines : List (List ℕ)) (report : Report) : Type 0 where
  pub all : List Judged
  pub report_is : IsReport report all
  pub judged : HasJudged plan published waits before after lines all
