use Rattle.std.proofs.Common.{sym, ◌∙◌}
use Rattle.delta_server.proofs.AnswerFacts.{not_declared}
use Rattle.delta_server.proofs.served.served_list.Goals as goal

pub returns-in_default-clause-none : goal.returns-in_default-clause-none
returns-in_default-clause-none c = not_declared c.args.history.now.versions c.args.list (sym c.declared.ensures ∙ c.in_default.is)
