use Rattle.mirror_serving.proofs.ResponseFacts.{find_answered, find_refused}
use Rattle.mirror_serving.proofs.finds.answer_find_body.Goals as goal

pub returns-in-Ok : goal.returns-in-Ok
returns-in-Ok c =
    find_answered c.args.fate.now c.args.asked.now c.in-Ok._find c.answer_by_fate.result c.in-Ok.ensures.ok c.answer_by_fate.ensures.told c.answer_by_fate.ensures.cause
    c.answer_by_fate.ensures.media

pub returns-in-Err : goal.returns-in-Err
returns-in-Err c =
    find_refused c.args.fate.now c.args.asked.now c.in-Err.fault c.refuse_body.result c.in-Err.ensures.only c.in-Err.ensures.err c.refuse_body.ensures.refused
    c.refuse_body.ensures.media c.refuse_body.ensures.some
