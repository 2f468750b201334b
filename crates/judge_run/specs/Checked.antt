-- URLs that were checked before, each on some publication, and what becomes of them.
use Rattle.std.specs.Prelude.{◌≡◌, ◌<◌, ◌⊎◌, ℕ, List, [], ◌∷◌, ◌++◌, length, map, slice_get, Some}
use Rattle.timed_sessions.specs.Told.{Outside}
use Rattle.snapshot_publish.specs.Publications.{Publications, IsPublicationKept}
use Rattle.url_checker.specs.Hits.{AreAskable}
use Rattle.url_checker.specs.declared.findings.Checked.{Checked}
use Rattle.url_checker.specs.declared.findings.Checked.TheVariants.{Found, Refused}
use Rattle.url_checker.specs.declared.finds.Finds.{Finds}
use Rattle.verdict_report.specs.declared.verdicts.Judged.{Judged}
use Rattle.parallel_checks.specs.Checks.{IsCheckOf, NeverFall, of_seat}
use Rattle.judge_run.specs.Judging.{BreaksOffLine, JudgesCheck, JudgesLines, check_of, first_finds}
use Rattle.wait_rules.specs.declared.waits.WaitState.{WaitState}
use Rattle.judge_run.specs.Reporting.{IsReport}
use Rattle.judge_run.specs.declared.plan.JudgePlan.{JudgePlan}
use Rattle.judge_run.specs.declared.report.Report.{Report}

-- ---- checks that can be resolved

-- the publication of a finding is kept, and one request can ask for its hits
abbrev pub MayBeJudged : Publications → Checked → Type 0
MayBeJudged all (Found finding) = IsPublicationKept all finding.number × AreAskable finding.hits
MayBeJudged all (Refused fault) = Unit {0}

abbrev pub MayAllBeJudged : Publications → List Checked → Type 0
MayAllBeJudged all checks = (index : ℕ) (check : Checked) → slice_get checks index ≡ Some check → MayBeJudged all check

-- There is a check for each line, which is that of its line on these publications.
pub record AreChecksOf (all : Publications) (lines : List (List ℕ)) (checks : List Checked) : Type 0 where
  pub count : length checks ≡ length lines
  pub each : (index : ℕ) (line : List ℕ) (check : Checked) → slice_get lines index ≡ Some line → slice_get checks index ≡ Some check → IsCheckOf all line check

-- ---- what becomes of their URLs

-- URLs were judged in order, each by its check.
pub record JudgesChecks (plan : JudgePlan) (published : Publications) (finds finds' : Finds) (before after : Outside) (lines : List (List ℕ)) (checks : List Checked) (all : List Judged) : Type 0 where
  pub judges : JudgesLines plan published finds finds' before after lines all
  pub by_checks : map check_of judges.cases ≡ checks

-- So they were, and this is their report.
pub record ReportsChecks (plan : JudgePlan) (published : Publications) (finds finds' : Finds) (before after : Outside) (lines : List (List ℕ)) (checks : List Checked) (report : Report) : Type 0 where
  pub all : List Judged
  pub report_is : IsReport report all
  pub judges : JudgesChecks plan published finds finds' before after lines checks all

-- ---- the next of them

-- One was judged by its check, whatever the line is of which the check is, and it is the next of a report.
pub record ReportsNext (plan : JudgePlan) (published : Publications) (check : Checked) (report report' : Report) (finds finds' : Finds) (before after : Outside) : Type 0 where
  pub one : Judged
  pub reports : (all : List Judged) → IsReport report all → IsReport report' (all ++ one ∷ [])
  pub judges : (line : List ℕ) → IsCheckOf published line check → JudgesCheck plan published finds finds' before after line check one

-- It was judged, and memory was refused for its report.
pub record StopsAfterCheck (plan : JudgePlan) (published : Publications) (check : Checked) (finds finds' : Finds) (before after : Outside) : Type 0 where
  pub one : Judged
  pub judges : (line : List ℕ) → IsCheckOf published line check → JudgesCheck plan published finds finds' before after line check one

-- Its judging was broken off.
pub record StopsAtCheck (plan : JudgePlan) (published : Publications) (check : Checked) (finds : Finds) (before after : Outside) : Type 0 where
  pub breaks : (line : List ℕ) (more : List (List ℕ)) → IsCheckOf published line check → BreaksOffLine plan published finds before after (line ∷ more)
  pub unmoved : after.faults ≡ before.faults

abbrev pub StopsAtNext : JudgePlan → Publications → Checked → (finds finds' : Finds) → (before after : Outside) → Type 0
StopsAtNext plan published check finds finds' before after =
    StopsAfterCheck plan published check finds finds' before after ⊎ StopsAtCheck plan published check finds before after

-- ---- seats

-- The numbers of findings never fall along the lines of a seat, of so many.
abbrev pub NumbersNeverFall : ℕ → List Checked → Type 0
NumbersNeverFall seats checks = (place : ℕ) → place < seats → NeverFall (of_seat checks seats place)

-- ---- from no kept answer on

-- URLs were judged by their checks, whose numbers never fall along the lines of a worker, and this is their report.
pub record HasReportedChecks (plan : JudgePlan) (published : Publications) (waits : WaitState) (before after : Outside) (lines : List (List ℕ)) (report : Report) : Type 0 where
  pub finds : Finds
  pub checks : List Checked
  pub never_fall : NumbersNeverFall plan.workers checks
  pub reports : ReportsChecks plan published (first_finds waits) finds before after lines checks report
