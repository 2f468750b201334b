use Rattle.find_desk.proofs.Decided.{by_look_if, decided_if}
use Rattle.find_desk.proofs.desk.FindDesk.verdict_at_once.Goals as goal

pub returns-clause-by_look : goal.returns-clause-by_look
returns-clause-by_look c start events hits is =
    by_look_if start events hits c.self.inside.finds.waits.allowed_at c.args.look.now c.verdict_by_answer.result is c.verdict_by_answer.ensures

pub returns-clause-decided : goal.returns-clause-decided
returns-clause-decided c start events hits is none =
    decided_if start events hits c.self.inside.finds.waits.allowed_at c.args.look.now c.verdict_by_answer.result is none c.verdict_by_answer.ensures
