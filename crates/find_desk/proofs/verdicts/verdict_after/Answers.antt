use Rattle.find_desk.proofs.Decided.{by_find_if, given_after_if}
use Rattle.find_desk.proofs.verdicts.verdict_after.Goals as goal

pub returns-clause-given : goal.returns-clause-given
returns-clause-given c start events more hits one is ends =
    given_after_if start events more hits one c.args.look.now c.args.ended.now c.verdict_by_answer.result c.requires.asked is ends c.verdict_by_answer.ensures

pub returns-clause-by_find : goal.returns-clause-by_find
returns-clause-by_find c start events more hits one is ends =
    by_find_if start events more hits one c.args.look.now c.args.ended.now c.verdict_by_answer.result c.requires.asked is ends c.verdict_by_answer.ensures
