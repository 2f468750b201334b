use Rattle.mirror_serving.specs.Response.{mirror_routes}
use Rattle.mirror_serving.proofs.ResponseFacts.{not_asked}
use Rattle.mirror_serving.proofs.routes.asks_for_finds.Goals as goal

pub returns-in-OtherMethod : goal.returns-in-OtherMethod
returns-in-OtherMethod c =
    not_asked c.args.request.now c.find_mirror_route.result (c.requests_ask_for_one_thing.ensures mirror_routes c.args.request.now) c.find_mirror_route.ensures
    c.in-OtherMethod.is
