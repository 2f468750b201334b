use Rattle.http_edge.proofs.DecidingFacts.{refused_decides, long_decides}
use Rattle.http_edge.proofs.deciding.asked_stage.Goals as goal

pub returns-in-Refused : goal.returns-in-Refused
returns-in-Refused c = refused_decides c.args.text.now c.in-Refused.ensures

pub returns-in-Open : goal.returns-in-Open
returns-in-Open c = long_decides c.args.text.now c.if-text-ge-HEAD_LIMIT.true c.in-Open.ensures
