-- What a run prints, and what it answers.
use Rattle.std.specs.Prelude.{ℕ, Bool, ◌||◌, if◌then◌else◌, List, ◌++◌, Option}
use Rattle.std.specs.List.{list_any}
use Rattle.update_run.specs.Printed.{ignored_text}
use Rattle.verdict_report.specs.Printed.{report_lines, summary_text, is_judged_unsafe, is_undecided, is_judged_refused}
use Rattle.verdict_report.specs.declared.verdicts.Judged.{Judged}
use Rattle.judge_run.specs.declared.judgement.Outcome.{Outcome}
use Rattle.judge_run.specs.declared.judgement.Outcome.TheVariants.{Safe, Unsafe, Open}

-- a line for each URL, counted from 1, and the summary
abbrev pub report_text : List Judged → List ℕ
report_text all = report_lines 1 all ++ summary_text all

-- the line of a store that is ignored, and the report
abbrev pub judge_text : Option (List ℕ) → List Judged → List ℕ
judge_text kept all = ignored_text kept ++ report_text all

-- whether a URL was refused or left undecided
abbrev pub is_left_open : Judged → Bool
is_left_open one = is_undecided one || is_judged_refused one

-- One unsafe URL decides, and else an open one.
abbrev pub outcome_of_all : List Judged → Outcome
outcome_of_all all = if list_any is_judged_unsafe all then Unsafe else if list_any is_left_open all then Open else Safe
