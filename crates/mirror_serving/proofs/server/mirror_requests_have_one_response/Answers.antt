use Rattle.mirror_serving.specs.Response.{mirror_routes, MirrorServed}
use Rattle.mirror_serving.proofs.ResponseFacts.{refused_whatever}
use Rattle.mirror_serving.proofs.server.mirror_requests_have_one_response.Goals as goal

pub returns-clause-one : goal.returns-clause-one
returns-clause-one c = λ mirror wait fate request.
    let served : MirrorServed = record { places = mirror; wait = wait; fate = fate } in c.requests_have_one_answer.ensures served served request

pub returns-clause-whole : goal.returns-clause-whole
returns-clause-whole c = λ mirror wait fate bytes request.
    let served : MirrorServed = record { places = mirror; wait = wait; fate = fate } in c.answers_follow_requests.ensures served served bytes request

pub returns-clause-told : goal.returns-clause-told
returns-clause-told c = refused_whatever (c.requests_ask_for_one_thing.ensures mirror_routes)
