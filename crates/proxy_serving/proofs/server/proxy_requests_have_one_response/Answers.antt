use Rattle.proxy_serving.specs.Response.{proxy_routes, ProxyServed}
use Rattle.proxy_serving.proofs.ResponseFacts.{refused_whatever}
use Rattle.proxy_serving.proofs.server.proxy_requests_have_one_response.Goals as goal

pub returns-clause-one : goal.returns-clause-one
returns-clause-one c = λ fate request.
    let served : ProxyServed = record { fate = fate } in c.requests_have_one_answer.ensures served served request

pub returns-clause-whole : goal.returns-clause-whole
returns-clause-whole c = λ fate bytes request.
    let served : ProxyServed = record { fate = fate } in c.answers_follow_requests.ensures served served bytes request

pub returns-clause-told : goal.returns-clause-told
returns-clause-told c = refused_whatever (c.requests_ask_for_one_thing.ensures proxy_routes)
