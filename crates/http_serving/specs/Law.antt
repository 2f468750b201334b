-- What is right is right alone.
use Rattle.std.specs.Prelude.{◌≡◌, ℕ, Bool, List, Result}
use Rattle.http_edge.specs.Requests.{ReadsAsRequest, RequestOutcome}
use Rattle.http_edge.specs.Responses.{allow_line}
use Rattle.http_edge.specs.declared.faults.RequestFault.{RequestFault}
use Rattle.http_edge.specs.declared.messages.Allow.{Allow}
use Rattle.http_edge.specs.declared.messages.HttpRequest.{HttpRequest}
use Rattle.http_edge.specs.declared.messages.ResponseFields.{ResponseFields}
use Rattle.http_edge.specs.declared.messages.Status.{Status}
use Rattle.http_serving.specs.Routes.{Route, AsksAt, HasNoRoute, HasOtherMethod}
use Rattle.http_serving.specs.Serving.{IsAnswerAfter}

-- No two statuses, no two methods that a 405 allows, no two media types, no two bodies and no two causes are right for one request.
abbrev pub HasOneAnswer : (HttpRequest → Status → ResponseFields → (body cause : List ℕ) → Type 0) → HttpRequest → Type 0
HasOneAnswer Right request =
    (first second : Status) (fields other : ResponseFields) (a b why because : List ℕ)
    → Right request first fields a why → Right request second other b because
    → (first ≡ second) × (allow_line first fields.allow ≡ allow_line second other.allow) × (fields.media ≡ other.media) × (a ≡ b) × (why ≡ because)

-- Bytes that begin with a whole request are answered as that request is, and never as a refusal.
abbrev pub IsAnsweredAsRead : (HttpRequest → Status → ResponseFields → (body cause : List ℕ) → Type 0) → List ℕ → HttpRequest → Type 0
IsAnsweredAsRead Right bytes request =
    ReadsAsRequest bytes request
    → (ended : Bool) (received : Result HttpRequest RequestFault) (status : Status) (fields : ResponseFields) (body cause : List ℕ)
    → RequestOutcome bytes ended received → IsAnswerAfter Right received status fields body cause
    → Right request status fields body cause

-- A request that asks for the route at a place asks for nothing else.
pub record AsksForOne (routes : List Route) (request : HttpRequest) (place : ℕ) : Type 0 where
  pub only : (other : ℕ) → AsksAt routes request other → other ≡ place
  pub taken : (allow : Allow) → ¬ HasOtherMethod routes request allow
  pub found : ¬ HasNoRoute routes request

abbrev pub AsksForOneThing : List Route → HttpRequest → Type 0
AsksForOneThing routes request = (place : ℕ) → AsksAt routes request place → AsksForOne routes request place
