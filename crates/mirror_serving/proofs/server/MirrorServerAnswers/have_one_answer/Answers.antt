use Rattle.mirror_serving.proofs.ResponseFacts.{one_response}
use Rattle.mirror_serving.proofs.server.MirrorServerAnswers.have_one_answer.Goals as goal

pub returns : goal.returns
returns c = λ before after place request.
    one_response c.values_read_one_way.ensures.request before.places before.wait before.fate place request
