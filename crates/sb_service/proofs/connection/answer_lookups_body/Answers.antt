use Rattle.sb_service.proofs.ConnectionFacts.{lookups_answered, lookups_refused}
use Rattle.sb_service.proofs.connection.answer_lookups_body.Goals as goal

pub returns-in-Ok : goal.returns-in-Ok
returns-in-Ok c =
    lookups_answered c.args.history.now.versions c.args.settings.now c.args.request.now c.as_slice.result.now c.in-Ok.message c.answer_lookups.result
    c.as_slice.ensures c.in-Ok.ensures.ok c.answer_lookups.ensures.status c.answer_lookups.ensures.body c.answer_lookups.ensures.media c.answer_lookups.ensures.cause

pub returns-in-Err : goal.returns-in-Err
returns-in-Err c =
    lookups_refused c.args.history.now.versions c.args.settings.now c.args.request.now c.as_slice.result.now c.in-Err.fault c.refuse_body.result
    c.as_slice.ensures c.in-Err.ensures.only c.in-Err.ensures.err c.refuse_body.ensures
