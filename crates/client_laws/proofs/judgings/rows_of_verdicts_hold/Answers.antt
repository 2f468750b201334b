use Rattle.std.proofs.Common.{[], List, refl, sym, subst}
use Rattle.verdict_report.specs.declared.verdicts.Judged.{Judged}
use Rattle.judge_run.specs.Judging.{first_finds}
use Rattle.client_laws.specs.Verdicts.{VerdictsHold}
use Rattle.client_laws.proofs.VerdictRows.{cases_hold}
use Rattle.client_laws.proofs.judgings.rows_of_verdicts_hold.Goals as goal

pub returns-clause-cases : goal.returns-clause-cases
returns-clause-cases c history token_at plan published waits lines cases well replicas are =
    cases_hold history token_at plan published replicas c.resolutions_are_steps.ensures
    (λ lists url steps left r own decided. c.resolved_verdicts_are_lookups.ensures.borne_out history token_at lists url steps left r well own decided)
    (λ lists url steps left r own decided none. c.resolved_verdicts_are_lookups.ensures.resolved history token_at lists url steps left r well own decided none)
    (first_finds waits) [] lines cases refl are

pub returns-clause-judged : goal.returns-clause-judged
returns-clause-judged c history token_at plan published waits finds before after lines all judges well replicas =
    subst (λ (one : List Judged). VerdictsHold history token_at published (first_finds waits) [] lines judges.cases one) (sym judges.judged_are)
    (returns-clause-cases c history token_at plan published waits lines judges.cases well replicas judges.are)
