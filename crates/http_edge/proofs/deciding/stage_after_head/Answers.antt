use Rattle.http_edge.proofs.DecidingFacts.{unknown_decides, past_decides, whole_decides}
use Rattle.http_edge.proofs.deciding.stage_after_head.Goals as goal

pub returns-in_default : goal.returns-in_default
returns-in_default c = unknown_decides c.args.text.now c.args.length c.args.start c.in_default.is c.requires

pub returns-then-length-gt-BODY_LIMIT : goal.returns-then-length-gt-BODY_LIMIT
returns-then-length-gt-BODY_LIMIT c = past_decides c.args.text.now c.args.length c.in-Some.length c.args.start c.in-Some.is c.if-length-gt-BODY_LIMIT.true c.requires

pub returns-then-length-come : goal.returns-then-length-come
returns-then-length-come c =
    whole_decides c.args.text.now c.args.length c.in-Some.length c.args.start c.in-Some.is c.if-length-gt-BODY_LIMIT.false c.if-length-come.true c.requires
