-- One check of a line.
use Rattle.std.proofs.Common.{◌≡◌, ℕ, zero, suc, List, [], ◌∷◌, ◌++◌, sym, subst, inr, Some, Ok, Err}
use Rattle.std.specs.Prelude.{Result, OnOk, slice_get, slice_index_or}
use Rattle.std.proofs.lemmas.Option.{slice_get_within}
use Rattle.update_client.specs.Held.{Held, tokens_of}
use Rattle.timed_sessions.specs.Told.{Outside}
use Rattle.snapshot_publish.specs.Publications.{Publications}
use Rattle.url_checker.specs.Checking.{IsFindingOf}
use Rattle.url_checker.specs.Resolved.{StopsResolving, unresolved}
use Rattle.url_checker.specs.declared.findings.Finding.{Finding}
use Rattle.verdict_report.specs.declared.verdicts.Judged.{Judged}
use Rattle.verdict_report.specs.declared.verdicts.Judged.TheVariants as judged
use Rattle.url_canon.specs.declared.fault.UrlFault.{UrlFault}
use Rattle.url_checker.specs.declared.findings.Checked.{Checked}
use Rattle.url_checker.specs.declared.findings.Checked.TheVariants.{Refused}
use Rattle.parallel_checks.specs.Checks.{IsFoundOn, IsCheckOf}
use Rattle.url_checker.specs.declared.finds.Finds.{Finds}
use Rattle.judge_run.specs.Judging.{IsFoundIn, lists_of_finding, BreaksOffLine, JudgesCheck}
use Rattle.judge_run.specs.Reporting.{IsReport}
use Rattle.judge_run.specs.declared.plan.JudgePlan.{JudgePlan}
use Rattle.judge_run.specs.declared.report.Report.{Report}
use Rattle.judge_run.specs.Checked.{ReportsNext}
use Rattle.judge_run.proofs.Cases.{refused_check}

pub or_there : {X : Type 0} (xs : List X) (k : ℕ) (x d : X) → slice_get xs k ≡ Some x → slice_index_or xs k d ≡ x
or_there [] k x d e = absurd cc
or_there (y ∷ xs) zero x d e = cc
or_there (y ∷ xs) (suc k) x d e = or_there xs k x d e

-- what was found on a publication is found among all
pub found_in : (published : Publications) (line : List ℕ) (finding : Finding) → IsFoundOn published line finding → IsFoundIn published line finding
found_in published line finding found = record {
  there = slice_get_within published finding.number found.lists found.there;
  is = subst (λ (lists : List Held). IsFindingOf lists finding.number line finding) (sym (or_there published finding.number found.lists [] found.there)) found.is;
}

pub breaks_in_finding : (plan : JudgePlan) (published : Publications) (finds : Finds) (before after : Outside) (line : List ℕ) (more : List (List ℕ)) (states : List (List ℕ)) (finding : Finding)
    → states ≡ tokens_of (lists_of_finding published finding) → IsFoundIn published line finding → StopsResolving (unresolved states finding.hits) plan.updates.target finds before after
    → BreaksOffLine plan published finds before after (line ∷ more)
breaks_in_finding plan published finds before after line more states finding same found stops =
    inr (record { finding = finding; found = found; stops = subst (λ (st : List (List ℕ)). StopsResolving (unresolved st finding.hits) plan.updates.target finds before after) same stops })

-- what a refused line comes to
pub refused_as : (plan : JudgePlan) (published : Publications) (finds : Finds) (before : Outside) (line : List ℕ) (check : Checked) (fault : UrlFault)
    → check ≡ Refused fault → IsCheckOf published line check → JudgesCheck plan published finds finds before before line check (judged.Refused fault)
refused_as plan published finds before line check fault same is =
    let refused = subst (λ (one : Checked). IsCheckOf published line one) same is in
    subst (λ (one : Checked). JudgesCheck plan published finds finds before before line one (judged.Refused fault)) (sym same)
    (refused_check plan published finds before line fault refused.fault_is)

-- ---- the next of a report

pub reports_next : {T E : Type 0} (r : Result T E) (plan : JudgePlan) (published : Publications) (check : Checked) (report report' : Report) (finds finds' : Finds) (before after : Outside) (one : Judged)
    → ((all : List Judged) → IsReport report all → OnOk r (IsReport report' (all ++ one ∷ [])))
    → ((line : List ℕ) → IsCheckOf published line check → JudgesCheck plan published finds finds' before after line check one)
    → OnOk r (ReportsNext plan published check report report' finds finds' before after)
reports_next (Ok x) plan published check report report' finds finds' before after one reports judges = record { one = one; reports = reports; judges = judges }
reports_next (Err e) plan published check report report' finds finds' before after one reports judges = tt
