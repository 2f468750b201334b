-- What a mirror answers to a request: a fetch by its places, and a find by what became of that in a session with the mirror's own server.
use Rattle.std.specs.Prelude.{◌≡◌, ◌⊎◌, ℕ, List, [], ◌∷◌, map, slice_get, Option, Some, option_map}
use Rattle.std.specs.Option.{unwrap_or}
use Rattle.sb_json.specs.Printed.{message_cause_text as message_cause}
use Rattle.sb_json.specs.Values.{value_of}
use Rattle.sb_json.specs.declared.faults.MessageFault.{MessageFault}
use Rattle.sb_outside.specs.declared.links.Kind.{Kind}
use Rattle.sb_outside.specs.declared.links.Kind.TheVariants.{Update, Find}
use Rattle.http_edge.specs.Exchanges.{path_of_kind}
use Rattle.http_edge.specs.declared.messages.Allow.TheVariants.{Post}
use Rattle.http_edge.specs.declared.messages.HttpRequest.{HttpRequest}
use Rattle.http_edge.specs.declared.messages.MediaType.TheVariants.{Json}
use Rattle.http_edge.specs.declared.messages.ResponseFields.{ResponseFields}
use Rattle.http_edge.specs.declared.messages.Status.{Status}
use Rattle.http_edge.specs.declared.messages.Status.TheVariants.{Success, BadRequest, BadGateway, ServiceUnavailable}
use Rattle.http_serving.specs.Routes.{Route, RoutedAnswer}
use Rattle.http_serving.specs.declared.forms.Form.TheVariants.{Plain}
use Rattle.update_messages.specs.Faults.{fault_of_request, fault_of_text}
use Rattle.update_messages.specs.Messages.{Request}
use Rattle.update_messages.specs.Reading.{ReadsRequest, IsTextOf}
use Rattle.update_messages.specs.Writing.{spelling_of_response}
use Rattle.hash_messages.specs.Faults.{fault_of_find_request}
use Rattle.hash_messages.specs.Messages.{AskedHashes}
use Rattle.hash_messages.specs.Reading.{ReadsFindRequest}
use Rattle.hash_messages.specs.Writing.{spelling_of_find_response}
use Rattle.mirror_places.specs.Answer.{mirror_answer}
use Rattle.mirror_places.specs.Places.{Places}
use Rattle.mirror_serving.specs.declared.fate.FindFate.{FindFate}
use Rattle.mirror_serving.specs.declared.fate.FindFate.TheVariants.{NotSent, Failed, Brought}

-- ---- routes

-- The kinds of requests that a mirror takes: for updates, and for full hashes. There is a route for each, and it takes any POST of its path.
abbrev pub mirror_kinds : List Kind
mirror_kinds = Update ∷ Find ∷ []

abbrev pub mirror_route : Kind → Route
mirror_route kind = record { path = path_of_kind kind; method = Post; form = Plain }

-- the table
abbrev pub mirror_routes : List Route
mirror_routes = map mirror_route mirror_kinds

-- the kind of requests that the route at a place of it takes
abbrev pub mirror_kind_at : ℕ → Kind
mirror_kind_at place = unwrap_or (slice_get mirror_kinds place) Find

-- ---- bodies

-- a body is a request for updates, or one for full hashes
abbrev pub IsFetchBody : List ℕ → Type 0
IsFetchBody asked = (message : Request) × IsTextOf ReadsRequest asked message

abbrev pub IsFindBody : List ℕ → Type 0
IsFindBody asked = (message : AskedHashes) × IsTextOf ReadsFindRequest asked message

abbrev pub IsBodyOfKind : Kind → List ℕ → Type 0
IsBodyOfKind Update asked = IsFetchBody asked
IsBodyOfKind Find asked = IsFindBody asked

-- the first fault of a body that is none
abbrev pub fetch_body_fault : List ℕ → Option MessageFault
fetch_body_fault asked = fault_of_text fault_of_request (value_of asked)

abbrev pub find_body_fault : List ℕ → Option MessageFault
find_body_fault asked = fault_of_text fault_of_find_request (value_of asked)

abbrev pub body_fault_of_kind : Kind → List ℕ → Option MessageFault
body_fault_of_kind Update asked = fetch_body_fault asked
body_fault_of_kind Find asked = find_body_fault asked

-- A body with this first fault is refused: 400 without a body, and the cause is the fault.
abbrev pub IsBodyRefused : Option MessageFault → Status → (body cause : List ℕ) → Type 0
IsBodyRefused fault status body cause = (status ≡ BadRequest) × (body ≡ []) × (option_map message_cause fault ≡ Some cause)

-- ---- updates

-- the updates that a message asks for, at the newest place
abbrev pub mirror_text : Places → ℕ → Request → List ℕ
mirror_text mirror wait message = spelling_of_response (mirror_answer mirror wait message)

-- The answer to the body of a request for updates. Other bodies have none.
abbrev pub IsMirrorText : Places → ℕ → (asked text : List ℕ) → Type 0
IsMirrorText mirror wait asked text = (message : Request) × IsTextOf ReadsRequest asked message × (text ≡ mirror_text mirror wait message)

-- A response to a body that was to ask for updates: 200 with them, without a cause, or it is refused. It names JSON as its type.
abbrev pub IsFetchResponse : Places → ℕ → (asked : List ℕ) → Status → ResponseFields → (body cause : List ℕ) → Type 0
IsFetchResponse mirror wait asked status fields body cause =
    ((IsMirrorText mirror wait asked body × (status ≡ Success) × (cause ≡ []))
    ⊎ ((¬ IsFetchBody asked) × IsBodyRefused (fetch_body_fault asked) status body cause))
    × (fields.media ≡ Json)

-- ---- full hashes

-- What is told of a find by its fate (RFC 9110, sections 15.6.3 and 15.6.4): 503 if it was not sent on, 502 if its session brought no
-- message, and else 200 with the message that this brought, as it was read.
abbrev pub IsFateTold : FindFate → Status → (body : List ℕ) → Type 0
IsFateTold NotSent status body = (status ≡ ServiceUnavailable) × (body ≡ [])
IsFateTold Failed status body = (status ≡ BadGateway) × (body ≡ [])
IsFateTold (Brought message) status body = (status ≡ Success) × (body ≡ spelling_of_find_response message)

-- A response to a body that was to ask for full hashes: it goes by the fate of the find, without a cause, or the body is refused, whatever
-- the fate. It names JSON as its type.
abbrev pub IsFindResponseBy : FindFate → (asked : List ℕ) → Status → ResponseFields → (body cause : List ℕ) → Type 0
IsFindResponseBy fate asked status fields body cause =
    ((IsFindBody asked × IsFateTold fate status body × (cause ≡ []))
    ⊎ ((¬ IsFindBody asked) × IsBodyRefused (find_body_fault asked) status body cause))
    × (fields.media ≡ Json)

-- ---- what a request is answered

-- What a right response is to a request of a kind, of a mirror with these places that bids its clients to wait so many seconds, if this is
-- the fate of the find.
abbrev pub IsMirrorResponseFor : Places → ℕ → FindFate → Kind → HttpRequest → Status → ResponseFields → (body cause : List ℕ) → Type 0
IsMirrorResponseFor mirror wait fate Update request = IsFetchResponse mirror wait request.body
IsMirrorResponseFor mirror wait fate Find request = IsFindResponseBy fate request.body

-- the same by the place of the route
abbrev pub IsMirrorResponseAt : Places → ℕ → FindFate → ℕ → HttpRequest → Status → ResponseFields → (body cause : List ℕ) → Type 0
IsMirrorResponseAt mirror wait fate place = IsMirrorResponseFor mirror wait fate (mirror_kind_at place)

-- The same of any request: 404 where no route has its path, and 405 with `Allow: POST` where it has another method, both without a cause.
abbrev pub IsMirrorResponseTo : Places → ℕ → FindFate → HttpRequest → Status → ResponseFields → (body cause : List ℕ) → Type 0
IsMirrorResponseTo mirror wait fate = RoutedAnswer mirror_routes (IsMirrorResponseAt mirror wait fate)

-- ---- a mirror that is asked

-- A mirror as its connections see it: its places, the minimum wait that it tells its clients, in seconds, and the fate of the find that is
-- being answered.
pub record MirrorServed : Type 0 where
  pub places : Places
  pub wait : ℕ
  pub fate : FindFate
