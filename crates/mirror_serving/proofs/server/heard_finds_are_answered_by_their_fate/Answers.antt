use Rattle.mirror_serving.specs.Response.{mirror_routes}
use Rattle.mirror_serving.proofs.ResponseFacts.{answered_by_fate, answered_without_fate}
use Rattle.mirror_serving.proofs.server.heard_finds_are_answered_by_their_fate.Goals as goal

pub returns-clause-finds : goal.returns-clause-finds
returns-clause-finds c = answered_by_fate (c.requests_ask_for_one_thing.ensures mirror_routes)

pub returns-clause-others : goal.returns-clause-others
returns-clause-others c = answered_without_fate
