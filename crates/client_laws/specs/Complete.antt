-- Which of the URLs of a run are decided, and why one is left open.
use Rattle.std.specs.Prelude.{List, [], ◌∷◌, Ok, Err}
use Rattle.snapshot_publish.specs.Publications.{Publications}
use Rattle.verdict_report.specs.declared.verdicts.Judged.{Judged}
use Rattle.verdict_report.specs.declared.verdicts.Judged.TheVariants as judged
use Rattle.client_laws.specs.Decided.{IsCompleteVerdict}
use Rattle.url_checker.specs.declared.finds.Finds.{Finds}
use Rattle.judge_run.specs.Judging.{Case, finds_after}
use Rattle.judge_run.specs.declared.plan.JudgePlan.{JudgePlan}

-- What is said of a URL that has a canonical form is a verdict: decided where its finding was answered, and else open with its cause.
abbrev pub IsCompleteCase : JudgePlan → Finds → Case → Judged → Type 0
IsCompleteCase plan finds (Ok answered) (judged.Verdict number text verdict) =
    IsCompleteVerdict plan.patience finds.cache finds.waits answered.finding.hits answered.resolution verdict
IsCompleteCase plan finds (Ok answered) (judged.Refused fault) = ⊥
IsCompleteCase plan finds (Err fault) one = Unit {0}

-- The same of URLs in order, each from what those before it left.
abbrev pub AreComplete : JudgePlan → Publications → Finds → List Case → List Judged → Type 0
AreComplete plan published finds [] [] = Unit {0}
AreComplete plan published finds [] (one ∷ all) = ⊥
AreComplete plan published finds (case ∷ cases) [] = ⊥
AreComplete plan published finds (case ∷ cases) (one ∷ all) =
    IsCompleteCase plan finds case one × AreComplete plan published (finds_after published finds case) cases all
