use Rattle.std.proofs.Common.{◌∙◌}
use Rattle.judge_run.proofs.Openings.{opens}
use Rattle.judge_run.proofs.beginning.open_waits.Goals as goal

pub returns-clause-opened : goal.returns-clause-opened
returns-clause-opened g c =
    opens c.now-start.result c.word.result c.word-2.result c.first-updates.result c.first-finds.result _ _ _ _ c.now-start.ensures c.word.ensures c.word-2.ensures
    c.first-updates.ensures c.first-finds.ensures

pub returns-clause-no_wait : goal.returns-clause-no_wait
returns-clause-no_wait g c = c.word-2.ensures.waits ∙ c.word.ensures.waits ∙ c.now-start.ensures.waits

pub returns-clause-unasked : goal.returns-clause-unasked
returns-clause-unasked g c = c.word-2.ensures.log ∙ c.word.ensures.log ∙ c.now-start.ensures.others.log
