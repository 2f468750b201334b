-- A find that was heard, and that is answered once its fate is known.
use Rattle.std.specs.Prelude.{ℕ, Result, Ok, Err}
use Rattle.http_edge.specs.declared.faults.RequestFault.{RequestFault}
use Rattle.http_edge.specs.declared.messages.HttpRequest.{HttpRequest}
use Rattle.http_serving.specs.Routes.{AsksAt}
use Rattle.update_messages.specs.Reading.{IsTextOf}
use Rattle.hash_messages.specs.Messages.{AskedHashes}
use Rattle.hash_messages.specs.Reading.{ReadsFindRequest}
use Rattle.mirror_serving.specs.Response.{mirror_routes}

-- the place of the route of finds
abbrev pub place_of_finds : ℕ
place_of_finds = 1

-- What was received is a whole request for the route of finds, whose body is this message.
abbrev pub IsHeardFind : Result HttpRequest RequestFault → AskedHashes → Type 0
IsHeardFind (Ok request) message = AsksAt mirror_routes request place_of_finds × IsTextOf ReadsFindRequest request.body message
IsHeardFind (Err fault) message = ⊥
