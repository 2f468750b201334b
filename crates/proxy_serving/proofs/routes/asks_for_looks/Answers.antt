use Rattle.proxy_serving.specs.Response.{proxy_routes}
use Rattle.proxy_serving.proofs.ResponseFacts.{not_asked}
use Rattle.proxy_serving.proofs.routes.asks_for_looks.Goals as goal

pub returns-in-OtherMethod : goal.returns-in-OtherMethod
returns-in-OtherMethod c =
    not_asked c.args.request.now c.find_proxy_route.result (c.requests_ask_for_one_thing.ensures proxy_routes c.args.request.now) c.find_proxy_route.ensures
    c.in-OtherMethod.is
