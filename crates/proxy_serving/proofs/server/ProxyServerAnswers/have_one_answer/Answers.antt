use Rattle.proxy_serving.proofs.ResponseFacts.{one_response}
use Rattle.proxy_serving.proofs.server.ProxyServerAnswers.have_one_answer.Goals as goal

pub returns : goal.returns
returns c = λ before after place request. one_response before.fate place request
