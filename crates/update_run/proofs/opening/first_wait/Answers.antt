use Rattle.std.proofs.Common.{◌∙◌}
use Rattle.update_run.proofs.Entries.{opens}
use Rattle.update_run.proofs.opening.first_wait.Goals as goal

pub returns-clause-opened : goal.returns-clause-opened
returns-clause-opened g c = opens c.now-start.result c.word.result c.first.result _ _ _ c.now-start.ensures c.word.ensures c.first.ensures

pub returns-clause-no_wait : goal.returns-clause-no_wait
returns-clause-no_wait g c = c.word.ensures.waits ∙ c.now-start.ensures.waits

pub returns-clause-unasked : goal.returns-clause-unasked
returns-clause-unasked g c = c.word.ensures.log ∙ c.now-start.ensures.others.log
