use Rattle.std.proofs.Common.{inl, inr}
use Rattle.input_lines.specs.Ways.{on_any}
use Rattle.judge_run.proofs.OneCheck.{reports_next}
use Rattle.judge_run.proofs.resolving.report_next.Goals as goal

pub returns-in-Ok-clause-judged : goal.returns-in-Ok-clause-judged
returns-in-Ok-clause-judged g c =
    reports_next c.add.result c.args.plan.now c.args.publisher.now.list c.args.check c.args.report.now c.add.new.self _ _ _ _ c.in-Ok.one c.add.ensures c.in-Ok.ensures.judged

pub returns-in-Ok-clause-stopped : goal.returns-in-Ok-clause-stopped
returns-in-Ok-clause-stopped g c = on_any c.add.result (inl (record { one = c.in-Ok.one; judges = c.in-Ok.ensures.judged }))

pub returns-in-Err-clause-stopped : goal.returns-in-Err-clause-stopped
returns-in-Err-clause-stopped g c = inr (record { breaks = c.in-Err.ensures.stopped; unmoved = c.in-Err.ensures.unmoved })
