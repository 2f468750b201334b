-- A look-up that was heard, and that is answered once its fate is known.
use Rattle.std.specs.Prelude.{ℕ, Result, Ok, Err}
use Rattle.http_edge.specs.declared.faults.RequestFault.{RequestFault}
use Rattle.http_edge.specs.declared.messages.HttpRequest.{HttpRequest}
use Rattle.http_serving.specs.Routes.{AsksAt}
use Rattle.update_messages.specs.Reading.{IsTextOf}
use Rattle.lookup_messages.specs.Messages.{AskedUrls}
use Rattle.lookup_messages.specs.Reading.{ReadsLookup}
use Rattle.proxy_serving.specs.Response.{proxy_routes}

-- the place of the route
abbrev pub place_of_looks : ℕ
place_of_looks = 0

-- What was received is a whole request for the route, whose body is this message.
abbrev pub IsHeardLook : Result HttpRequest RequestFault → AskedUrls → Type 0
IsHeardLook (Ok request) message = AsksAt proxy_routes request place_of_looks × IsTextOf ReadsLookup request.body message
IsHeardLook (Err fault) message = ⊥
