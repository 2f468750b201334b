-- What is right is right alone.
use Rattle.std.specs.Prelude.{◌≡◌, ℕ, List, []}
use Rattle.sb_model.specs.History.{History}
use Rattle.http_edge.specs.declared.messages.HttpRequest.{HttpRequest}
use Rattle.http_edge.specs.declared.messages.ResponseFields.{ResponseFields}
use Rattle.http_edge.specs.declared.messages.Status.{Status}
use Rattle.http_edge.specs.declared.messages.Status.TheVariants.{Success, BadRequest}
use Rattle.http_serving.specs.Law as serving
use Rattle.http_serving.specs.Routes.{AsksAt}
use Rattle.delta_server.specs.declared.answering.Settings.{Settings}
use Rattle.sb_lookup.specs.Lookups.{lists_text}
use Rattle.sb_service.specs.Connection.{list_routes, IsCauseAt, IsResponseTo, IsTextAt}

-- No two statuses, no two bodies and no two causes are right for one request.
abbrev pub HasOneResponse : History → Settings → HttpRequest → Type 0
HasOneResponse history times request = serving.HasOneAnswer (IsResponseTo history times) request

-- Bytes that begin with a whole request are answered as that request is, and never as a refusal.
abbrev pub IsResponseAsRead : History → Settings → List ℕ → HttpRequest → Type 0
IsResponseAsRead history times bytes request = serving.IsAnsweredAsRead (IsResponseTo history times) bytes request

-- A request for a route that has no answer is answered 400 without a body, and its cause is its first fault.
abbrev pub TellsFirstFault : History → Settings → HttpRequest → Type 0
TellsFirstFault history times request =
    (place : ℕ) → AsksAt list_routes request place → ((text : List ℕ) → ¬ IsTextAt history times place request text)
    → (status : Status) (fields : ResponseFields) (body cause : List ℕ) → IsResponseTo history times request status fields body cause
    → (status ≡ BadRequest) × (body ≡ []) × IsCauseAt place request cause

-- A request for the names of lists is answered 200 with them, whatever it has, and no cause is told of it.
abbrev pub AlwaysTellsLists : History → Settings → HttpRequest → Type 0
AlwaysTellsLists history times request =
    AsksAt list_routes request 7
    → (status : Status) (fields : ResponseFields) (body cause : List ℕ) → IsResponseTo history times request status fields body cause
    → (status ≡ Success) × (body ≡ lists_text history) × (cause ≡ [])
