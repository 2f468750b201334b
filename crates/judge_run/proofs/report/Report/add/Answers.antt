use Rattle.std.proofs.Common.{refl}
use Rattle.judge_run.proofs.ReportFacts.{report_more}
use Rattle.judge_run.proofs.report.Report.add.Goals as goal

pub returns : goal.returns
returns c = λ all is.
    report_more c.args.self.now c.turn.new.self _ all c.args.one.now is c.in_ok-turn.ensures.text c.in_ok-turn.ensures.counts refl c.in_ok-push_report_line.ensures.ok (λ counted. c.add.ensures all counted)
