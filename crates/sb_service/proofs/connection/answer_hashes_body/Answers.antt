use Rattle.sb_service.proofs.ConnectionFacts.{hashes_answered, hashes_refused}
use Rattle.sb_service.proofs.connection.answer_hashes_body.Goals as goal

pub returns-in-Ok : goal.returns-in-Ok
returns-in-Ok c =
    hashes_answered c.args.history.now.versions c.args.settings.now c.args.request.now c.as_slice.result.now c.in-Ok.message c.answer_hashes.result
    c.as_slice.ensures c.in-Ok.ensures.ok c.answer_hashes.ensures.status c.answer_hashes.ensures.body c.answer_hashes.ensures.media c.answer_hashes.ensures.cause

pub returns-in-Err : goal.returns-in-Err
returns-in-Err c =
    hashes_refused c.args.history.now.versions c.args.settings.now c.args.request.now c.as_slice.result.now c.in-Err.fault c.refuse_body.result
    c.as_slice.ensures c.in-Err.ensures.only c.in-Err.ensures.err c.refuse_body.ensures
