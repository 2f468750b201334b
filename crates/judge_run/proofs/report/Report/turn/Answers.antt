use Rattle.std.proofs.Common.{◌∙◌}
use Rattle.judge_run.proofs.ReportFacts.{turned}
use Rattle.judge_run.proofs.report.Report.turn.Goals as goal

pub returns-clause-text : goal.returns-clause-text
returns-clause-text c =
    turned c.args.self.now.full c.push.new.self c.args.self.now.page c.replace.result c.replace.new.dest c.in_ok-push.ensures.ok c.replace.ensures.value (c.replace.ensures.after ∙ c.in_ok-next.ensures)
