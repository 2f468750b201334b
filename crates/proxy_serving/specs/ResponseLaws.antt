-- What is right of a proxy's responses is right alone.
use Rattle.std.specs.Prelude.{◌≡◌, ℕ, List, [], Result}
use Rattle.http_edge.specs.declared.faults.RequestFault.{RequestFault}
use Rattle.http_edge.specs.declared.messages.HttpRequest.{HttpRequest}
use Rattle.http_edge.specs.declared.messages.ResponseFields.{ResponseFields}
use Rattle.http_edge.specs.declared.messages.Status.{Status}
use Rattle.http_serving.specs.Law as serving
use Rattle.http_serving.specs.Routes.{AsksAt}
use Rattle.http_serving.specs.Serving.{IsAnswerAfter}
use Rattle.lookup_messages.specs.Messages.{AskedUrls}
use Rattle.proxy_serving.specs.HeardLook.{IsHeardLook}
use Rattle.proxy_serving.specs.Response.{look_body_fault, proxy_routes, IsLookBody, IsLookRefused, IsLookTold, IsProxyResponseTo}
use Rattle.proxy_serving.specs.declared.fate.LookFate.{LookFate}

-- No two statuses, no two bodies and no two causes are right for one request, with one fate of the look-up.
abbrev pub HasOneProxyResponse : LookFate → HttpRequest → Type 0
HasOneProxyResponse fate request = serving.HasOneAnswer (IsProxyResponseTo fate) request

-- Bytes that begin with a whole request are answered as that request is, and never as a refusal.
abbrev pub IsProxyResponseAsRead : LookFate → List ℕ → HttpRequest → Type 0
IsProxyResponseAsRead fate bytes request = serving.IsAnsweredAsRead (IsProxyResponseTo fate) bytes request

-- A request for the route whose body is no message is answered 400 without a body, whatever the fate, and its cause is its first fault.
abbrev pub RefusesWhateverLook : LookFate → HttpRequest → Type 0
RefusesWhateverLook fate request =
    (place : ℕ) → AsksAt proxy_routes request place → ¬ IsLookBody request.body
    → (status : Status) (fields : ResponseFields) (body cause : List ℕ) → IsProxyResponseTo fate request status fields body cause
    → IsLookRefused (look_body_fault request.body) status body cause

-- A look-up that was heard is answered by its fate, and no cause is told of it.
abbrev pub IsAnsweredByLook : LookFate → Result HttpRequest RequestFault → Type 0
IsAnsweredByLook fate received =
    (message : AskedUrls) → IsHeardLook received message
    → (status : Status) (fields : ResponseFields) (body cause : List ℕ) → IsAnswerAfter (IsProxyResponseTo fate) received status fields body cause
    → IsLookTold fate status body × (cause ≡ [])

-- Whatever else was received is answered in the same way, whatever the fate of a look-up.
abbrev pub IsAnsweredWithoutLook : Result HttpRequest RequestFault → Type 0
IsAnsweredWithoutLook received =
    ((message : AskedUrls) → ¬ IsHeardLook received message) → (fate other : LookFate)
    → (status : Status) (fields : ResponseFields) (body cause : List ℕ) → IsAnswerAfter (IsProxyResponseTo fate) received status fields body cause
    → IsAnswerAfter (IsProxyResponseTo other) received status fields body cause
