use Rattle.std.proofs.Common.{false}
use Rattle.timed_sessions.proofs.Sessions.{opened, held_part, err_says}
use Rattle.timed_sessions.proofs.timing.begin_session.Goals as goal

pub returns-clause-opened : goal.returns-clause-opened
returns-clause-opened g c =
    opened c.args.waits c.args.read c.args.target.now c.args.kind c.args.body.now _ _ _ c.begin-begun.result c.in_ok-sent.sent
    c.begin-begun.ensures c.in_ok-sent.ensures.opened c.in_ok-sent.ensures.unread

pub returns-in_err-sent-clause-refused : goal.returns-in_err-sent-clause-refused
returns-in_err-sent-clause-refused g c =
    let (ended, part, closes) = c.in_err-sent.ensures.refused in
    err_says c.from_residual.result _
    (held_part c.args.waits c.args.read c.args.target.now c.args.kind c.args.body.now false _ _ _ c.begin-begun.result ended
    c.begin-begun.ensures closes (part false))
