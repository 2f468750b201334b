use Rattle.proxy_serving.specs.Response.{proxy_routes}
use Rattle.proxy_serving.proofs.ResponseFacts.{answered_by_fate, answered_without_fate}
use Rattle.proxy_serving.proofs.server.heard_looks_are_answered_by_their_fate.Goals as goal

pub returns-clause-looks : goal.returns-clause-looks
returns-clause-looks c = answered_by_fate (c.requests_ask_for_one_thing.ensures proxy_routes)

pub returns-clause-others : goal.returns-clause-others
returns-clause-others c = answered_without_fate
