use Rattle.timed_sessions.proofs.Sessions.{held, open_part, err_says}
use Rattle.timed_sessions.proofs.timing.end_session.Goals as goal

pub returns-clause-held : goal.returns-clause-held
returns-clause-held g c = λ waits read target kind body start opens.
    let talk = c.in_ok-ended in
    held waits read target kind body c.args.need_digest start _ _ c.args.opening talk.field-0.ended talk.field-0.answer
    opens (talk.ensures.closed c.args.opening.begun c.requires.last) (talk.ensures.session target kind body c.args.opening.begun start.log opens.opened)

pub returns-in_err-ended-clause-refused : goal.returns-in_err-ended-clause-refused
returns-in_err-ended-clause-refused g c = λ waits read target kind body start opens.
    let (ended, part, closes) = c.in_err-ended.ensures.refused in
    err_says c.from_residual.result _
    (open_part waits read target kind body c.args.need_digest start _ _ c.args.opening ended
    opens (closes c.args.opening.begun c.requires.last) (part target kind body c.args.opening.begun start.log opens.opened))

pub returns-clause-last : goal.returns-clause-last
returns-clause-last g c = (c.in_ok-ended.ensures.closed c.args.opening.begun c.requires.last).last
