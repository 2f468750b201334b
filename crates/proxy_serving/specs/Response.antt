-- What a proxy answers to a request: a look-up goes by what became of it.
use Rattle.std.specs.Prelude.{◌≡◌, ◌⊎◌, ℕ, List, [], ◌∷◌, codes, Option, Some, option_map}
use Rattle.sb_json.specs.Printed.{message_cause_text as message_cause}
use Rattle.sb_json.specs.Values.{value_of}
use Rattle.sb_json.specs.declared.faults.MessageFault.{MessageFault}
use Rattle.http_edge.specs.declared.messages.Allow.TheVariants.{Post}
use Rattle.http_edge.specs.declared.messages.HttpRequest.{HttpRequest}
use Rattle.http_edge.specs.declared.messages.MediaType.TheVariants.{Json}
use Rattle.http_edge.specs.declared.messages.ResponseFields.{ResponseFields}
use Rattle.http_edge.specs.declared.messages.Status.{Status}
use Rattle.http_edge.specs.declared.messages.Status.TheVariants.{Success, BadRequest, ServiceUnavailable}
use Rattle.http_serving.specs.Routes.{Route, RoutedAnswer}
use Rattle.http_serving.specs.declared.forms.Form.TheVariants.{Plain}
use Rattle.update_messages.specs.Faults.{fault_of_text}
use Rattle.update_messages.specs.Reading.{IsTextOf}
use Rattle.lookup_messages.specs.Faults.{fault_of_lookup}
use Rattle.lookup_messages.specs.Messages.{AskedUrls}
use Rattle.lookup_messages.specs.Reading.{ReadsLookup}
use Rattle.lookup_messages.specs.Writing.{spelling_of_lookup_response}
use Rattle.proxy_serving.specs.declared.fate.LookFate.{LookFate}
use Rattle.proxy_serving.specs.declared.fate.LookFate.TheVariants.{Unanswered, Answered}

-- ---- the route

-- the path of look-ups
unfoldable pub look_path : List ℕ
look_path = codes "/v4/threatMatches:find"

-- the one route: it takes any POST of this path
abbrev pub proxy_route : Route
proxy_route = record { path = look_path; method = Post; form = Plain }

-- the table
abbrev pub proxy_routes : List Route
proxy_routes = proxy_route ∷ []

-- ---- bodies

-- a body asks to look URLs up
abbrev pub IsLookBody : List ℕ → Type 0
IsLookBody asked = (message : AskedUrls) × IsTextOf ReadsLookup asked message

-- the first fault of a body that does not
abbrev pub look_body_fault : List ℕ → Option MessageFault
look_body_fault asked = fault_of_text fault_of_lookup (value_of asked)

-- A body with this first fault is refused: 400 without a body, and the cause is the fault.
abbrev pub IsLookRefused : Option MessageFault → Status → (body cause : List ℕ) → Type 0
IsLookRefused fault status body cause = (status ≡ BadRequest) × (body ≡ []) × (option_map message_cause fault ≡ Some cause)

-- ---- what a request is answered

-- What is told of a look-up by its fate (RFC 9110, section 15.6.4): 503 if it is not answered, and else 200 with the one spelling of the
-- answer.
abbrev pub IsLookTold : LookFate → Status → (body : List ℕ) → Type 0
IsLookTold Unanswered status body = (status ≡ ServiceUnavailable) × (body ≡ [])
IsLookTold (Answered message) status body = (status ≡ Success) × (body ≡ spelling_of_lookup_response message)

-- A response to a body that was to ask for a look-up: it goes by the fate of the look-up, without a cause, or the body is refused, whatever
-- the fate. It names JSON as its type.
abbrev pub IsLookResponseBy : LookFate → (asked : List ℕ) → Status → ResponseFields → (body cause : List ℕ) → Type 0
IsLookResponseBy fate asked status fields body cause =
    ((IsLookBody asked × IsLookTold fate status body × (cause ≡ []))
    ⊎ ((¬ IsLookBody asked) × IsLookRefused (look_body_fault asked) status body cause))
    × (fields.media ≡ Json)

-- what a right response is to a request for the route
abbrev pub IsProxyResponseAt : LookFate → ℕ → HttpRequest → Status → ResponseFields → (body cause : List ℕ) → Type 0
IsProxyResponseAt fate place request = IsLookResponseBy fate request.body

-- The same of any request: 404 if it has another path, and 405 with `Allow: POST` if it has another method, both without a cause.
abbrev pub IsProxyResponseTo : LookFate → HttpRequest → Status → ResponseFields → (body cause : List ℕ) → Type 0
IsProxyResponseTo fate = RoutedAnswer proxy_routes (IsProxyResponseAt fate)

-- ---- a proxy that is asked

-- A proxy as its connections see it: the fate of the look-up that is being answered.
pub record ProxyServed : Type 0 where
  pub fate : LookFate
