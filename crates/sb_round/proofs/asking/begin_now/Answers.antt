use Rattle.std.proofs.lemmas.Result.{on_err_weaker}
use Rattle.sb_round.proofs.RoundFacts.{open_if, held_part}
use Rattle.sb_round.proofs.asking.begin_now.Goals as goal

pub returns-clause-opened : goal.returns-clause-opened
returns-clause-opened g c =
    open_if c.args.waits c.now-read.result c.args.target.now c.args.body.now _ _ _ c.begin_session.result
    c.now-read.ensures c.begin_session.ensures.opened c.begin_session.ensures.last

pub returns-clause-refused : goal.returns-clause-refused
returns-clause-refused g c =
    on_err_weaker c.begin_session.result
    (held_part c.args.waits c.now-read.result c.args.target.now c.args.body.now _ _ _ c.now-read.ensures)
    c.begin_session.ensures.refused
