use Rattle.proxy_serving.proofs.ResponseFacts.{look_answered, look_refused}
use Rattle.proxy_serving.proofs.looks.answer_look_body.Goals as goal

pub returns-in-Ok : goal.returns-in-Ok
returns-in-Ok c =
    look_answered c.args.fate.now c.args.asked.now c.in-Ok._look c.answer_by_fate.result c.in-Ok.ensures.ok c.answer_by_fate.ensures.told c.answer_by_fate.ensures.cause
    c.answer_by_fate.ensures.media

pub returns-in-Err : goal.returns-in-Err
returns-in-Err c =
    look_refused c.args.fate.now c.args.asked.now c.in-Err.fault c.refuse_look.result c.in-Err.ensures.only c.in-Err.ensures.err c.refuse_look.ensures.refused
    c.refuse_look.ensures.media c.refuse_look.ensures.some
