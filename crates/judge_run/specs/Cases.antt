-- URLs that are judged one after the other: none, and one more than some.
use Rattle.std.specs.Prelude.{◌≡◌, ◌≤◌, ℕ, List, [], ◌∷◌, ◌++◌}
use Rattle.timed_sessions.specs.Told.{Outside}
use Rattle.snapshot_publish.specs.Publications.{Publications}
use Rattle.verdict_report.specs.declared.verdicts.Judged.{Judged}
use Rattle.url_checker.specs.declared.finds.Finds.{Finds}
use Rattle.judge_run.specs.Judging.{JudgesLine, JudgesLines}
use Rattle.judge_run.specs.declared.plan.JudgePlan.{JudgePlan}

-- Where nothing was done no URL was judged.
abbrev pub BeginsCases : Type 0
BeginsCases = (plan : JudgePlan) (published : Publications) (finds : Finds) (before : Outside)
    → (made : JudgesLines plan published finds finds before before [] []) × (made.cases ≡ [])

-- URLs that were judged in order, and one more that was judged after them, were judged in order: their cases, and then its own.
abbrev pub GoesOnWithCases : Type 0
GoesOnWithCases = (plan : JudgePlan) (published : Publications) (finds mid finds' : Finds) (before between after : Outside)
    (lines : List (List ℕ)) (all : List Judged) (line : List ℕ) (one : Judged)
    → before.faults ≤ between.faults → between.faults ≤ after.faults
    → (so_far : JudgesLines plan published finds mid before between lines all)
    → (next : JudgesLine plan published mid finds' between after line one)
    → (made : JudgesLines plan published finds finds' before after (lines ++ line ∷ []) (all ++ one ∷ [])) × (made.cases ≡ so_far.cases ++ next.case ∷ [])
