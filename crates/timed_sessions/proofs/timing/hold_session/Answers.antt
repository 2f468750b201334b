use Rattle.timed_sessions.proofs.timing.hold_session.Goals as goal

pub returns-clause-held : goal.returns-clause-held
returns-clause-held g c = c.end_session.ensures.held c.args.waits c.args.read c.args.target.now c.args.kind c.args.body.now _ c.in_ok-opening.ensures.opened
