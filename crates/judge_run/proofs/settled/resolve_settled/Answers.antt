use Rattle.std.proofs.Common.{◌≡◌, ℕ, subst, sym}
use Rattle.input_lines.specs.Ways.{on_any}
use Rattle.snapshot_publish.specs.Publishing.{Publishing}
use Rattle.url_checker.specs.declared.finds.Finds.{Finds}
use Rattle.judge_run.specs.Checked.{AreChecksOf, NumbersNeverFall, ReportsChecks}
use Rattle.judge_run.specs.Judging.{StopsJudging}
use Rattle.judge_run.proofs.Cases.{first_are, stops_at_once}
use Rattle.judge_run.proofs.settled.resolve_settled.Goals as goal

pub returns-in_err-checks-clause-stopped : goal.returns-in_err-checks-clause-stopped
returns-in_err-checks-clause-stopped g c = on_any _ (stops_at_once _ _ _ _ _)

pub returns-in_err-finds-clause-stopped : goal.returns-in_err-finds-clause-stopped
returns-in_err-finds-clause-stopped g c = on_any _ (stops_at_once _ _ _ _ _)

pub returns-in_err-report-clause-stopped : goal.returns-in_err-report-clause-stopped
returns-in_err-report-clause-stopped g c =
    let first = first_are c.in_ok-finds.finds c.args.first c.in_ok-finds.ensures.cache c.in_ok-finds.ensures.waits in
    let same : c.settle_checks.new.publisher ≡ c.args.publisher.now = c.settle_checks.ensures.publisher in
    let are = subst (λ (p : Publishing). AreChecksOf p.list c.args.urls.now c.in_ok-checks.checks) (sym same) c.in_ok-checks.ensures.checks in
    let here = subst (λ (p : Publishing). StopsJudging c.args.plan.now p.list c.in_ok-finds.finds (g.N.Line.view c.args.line.now).told (g.N.Line.view c.resolve_checks.new.line).told c.args.urls.now)
    same (c.in_err-report.ensures.stopped c.args.urls.now are)
    in
    on_any _
    (subst (λ (finds : Finds). StopsJudging c.args.plan.now c.args.publisher.now.list finds (g.N.Line.view c.args.line.now).told (g.N.Line.view c.resolve_checks.new.line).told c.args.urls.now) first here)

pub returns-clause-judged : goal.returns-clause-judged
returns-clause-judged g c =
    let first = first_are c.in_ok-finds.finds c.args.first c.in_ok-finds.ensures.cache c.in_ok-finds.ensures.waits in
    let same : c.settle_checks.new.publisher ≡ c.args.publisher.now = c.settle_checks.ensures.publisher in
    let are = subst (λ (p : Publishing). AreChecksOf p.list c.args.urls.now c.in_ok-checks.checks) (sym same) c.in_ok-checks.ensures.checks in
    let here = subst (λ (p : Publishing). ReportsChecks c.args.plan.now p.list c.in_ok-finds.finds c.resolve_checks.new.finds (g.N.Line.view c.args.line.now).told (g.N.Line.view c.resolve_checks.new.line).told
    c.args.urls.now c.in_ok-checks.checks c.in_ok-report.report) same (c.in_ok-report.ensures.judged c.args.urls.now are)
    in
    record {
      finds = c.resolve_checks.new.finds;
      checks = c.in_ok-checks.checks;
      never_fall = subst (λ (seats : ℕ). NumbersNeverFall seats c.in_ok-checks.checks) c.requires.seats c.in_ok-checks.ensures.never_fall;
      reports =
          subst (λ (finds : Finds). ReportsChecks c.args.plan.now c.args.publisher.now.list finds c.resolve_checks.new.finds (g.N.Line.view c.args.line.now).told (g.N.Line.view c.resolve_checks.new.line).told
          c.args.urls.now c.in_ok-checks.checks c.in_ok-report.report) first here;
    }
