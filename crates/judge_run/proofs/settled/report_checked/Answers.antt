use Rattle.std.proofs.Common.{sym, subst, ◌∙◌}
use Rattle.judge_run.specs.Checked.{NumbersNeverFall}
use Rattle.judge_run.proofs.Endings.{judges_all, stops_among, stops_at_waiting, stops_reporting}
use Rattle.judge_run.proofs.settled.report_checked.Goals as goal

pub returns-in-Err-clause-ends : goal.returns-in-Err-clause-ends
returns-in-Err-clause-ends g c = λ keeper.
    let at = c.args.updater.now in
    stops_at_waiting c.args.plan.now at.publisher.list c.args.first at.client.page c.args.checked.urls keeper _ _ _ c.in-Err.ensures.err

pub returns-in-Ok-print_report-clause-ends : goal.returns-in-Ok-print_report-clause-ends
returns-in-Ok-print_report-clause-ends g c = λ keeper.
    let at = c.args.updater.now in
    let reported = c.in-Ok.ensures.judged in
    let reports = reported.reports in
    judges_all c.args.plan.now at.publisher.list c.args.first at.client.page c.args.checked.urls keeper _ _ _ _ _ reports.all (record { finds = reported.finds; judges = reports.judges.judges })
    c.in_default.ensures.ok (record { outcome = c.outcome_of.result; refused = c.args.checked.refused }) (subst (NumbersNeverFall c.args.plan.now.workers) (sym reports.judges.by_checks) reported.never_fall)
    (c.in-Ok-print_report.ensures.text reports.all reports.report_is) (c.outcome_of.ensures reports.all (c.print_report.ensures.counts ∙ reports.report_is.counts))

pub returns-in-Ok-clause-ends : goal.returns-in-Ok-clause-ends
returns-in-Ok-clause-ends g c = λ keeper.
    let at = c.args.updater.now in
    let reported = c.in-Ok.ensures.judged in
    let reports = reported.reports in
    stops_reporting c.args.plan.now at.publisher.list c.args.first at.client.page c.args.checked.urls keeper _ _ _ _ _ reports.all (record { finds = reported.finds; judges = reports.judges.judges })
    c.in_default.ensures.ok c.in-Err-print_report.stop _ _ c.in-Err-print_report.ensures.stopped (c.in-Err-print_report.ensures.front reports.all reports.report_is)

pub returns-clause-ends : goal.returns-clause-ends
returns-clause-ends g c = λ keeper.
    let at = c.args.updater.now in
    stops_among c.args.plan.now at.publisher.list c.args.first at.client.page c.args.checked.urls keeper _ _ _ _ c.in-Err-resolve_settled.ensures.stopped c.in_default.ensures.ok
