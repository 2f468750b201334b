-- A table of routes, and which of them a request asks for.
use Rattle.std.specs.Prelude.{◌≡◌, ◌⊎◌, ◌&&◌, ℕ, Bool, List, [], Option, Some, None, position, slice_get}
use Rattle.std.specs.Str.{bytes_eq}
use Rattle.http_edge.specs.Responses.{method_text}
use Rattle.http_edge.specs.declared.messages.Allow.{Allow}
use Rattle.http_edge.specs.declared.messages.HttpRequest.{HttpRequest}
use Rattle.http_edge.specs.declared.messages.MediaType.TheVariants.{Json}
use Rattle.http_edge.specs.declared.messages.ResponseFields.{ResponseFields}
use Rattle.http_edge.specs.declared.messages.Status.{Status}
use Rattle.http_edge.specs.declared.messages.Status.TheVariants.{NotFound, MethodNotAllowed}
use Rattle.http_serving.specs.Forms.{request_form, takes_form}
use Rattle.http_serving.specs.Targets.{path_in}
use Rattle.http_serving.specs.declared.forms.Form.{Form}
use Rattle.http_serving.specs.declared.routes.Routed.{Routed}
use Rattle.http_serving.specs.declared.routes.Routed.TheVariants.{Asked, OtherMethod, NoPath}

-- A route: a path, the one method that it takes, and the form of the requests that it takes.
pub record Route : Type 0 where
  pub path : List ℕ
  pub method : Allow
  pub form : Form

-- whether a route has the path of a request
abbrev pub has_path : Route → HttpRequest → Bool
has_path route request = bytes_eq route.path (path_in request.target)

-- whether a route takes a request: it has its path, its method is the request's, and it is plain or has the request's form
abbrev pub takes : Route → HttpRequest → Bool
takes route request = has_path route request && (bytes_eq request.method (method_text route.method) && takes_form route.form (request_form request))

-- the place of the first route that takes a request
abbrev pub place_for : List Route → HttpRequest → Option ℕ
place_for routes request = position (λ route. takes route request) routes

-- the place of the first route that has the path of a request
abbrev pub place_by_path : List Route → HttpRequest → Option ℕ
place_by_path routes request = position (λ route. has_path route request) routes

-- A request asks for the route at a place: this is the first that takes it. So a table has the routes of other forms before the
-- plain one with the same path and method.
abbrev pub AsksAt : List Route → HttpRequest → ℕ → Type 0
AsksAt routes request place = place_for routes request ≡ Some place

-- No route takes a request, and the first that has its path takes this method.
pub record HasOtherMethod (routes : List Route) (request : HttpRequest) (allow : Allow) : Type 0 where
  pub untaken : place_for routes request ≡ None
  pub place : ℕ
  pub route : Route
  pub first : place_by_path routes request ≡ Some place
  pub stands : slice_get routes place ≡ Some route
  pub allowed : allow ≡ route.method

-- No route has the path of a request.
abbrev pub HasNoRoute : List Route → HttpRequest → Type 0
HasNoRoute routes request = place_by_path routes request ≡ None

-- what a request asks for
abbrev pub IsRouted : List Route → HttpRequest → Routed → Type 0
IsRouted routes request (Asked place) = AsksAt routes request place
IsRouted routes request (OtherMethod allow) = HasOtherMethod routes request allow
IsRouted routes request NoPath = HasNoRoute routes request

-- What a right answer is of a server with a table of routes, where `Right` says it of each place: a request that asks for
-- a route is answered as that route does, 405 with the method of the first route of its path where none takes it, and 404 where no
-- route has its path (RFC 9110, sections 15.5.5 and 15.5.6). The last two name JSON as their type and have no body, and no cause is
-- told of them.
abbrev pub RoutedAnswer : List Route → (ℕ → HttpRequest → Status → ResponseFields → (body cause : List ℕ) → Type 0) → HttpRequest → Status → ResponseFields → (body cause : List ℕ) → Type 0
RoutedAnswer routes Right request status fields body cause =
    ((place : ℕ) × AsksAt routes request place × Right place request status fields body cause)
    ⊎ (HasOtherMethod routes request fields.allow × (status ≡ MethodNotAllowed) × (fields.media ≡ Json) × (body ≡ []) × (cause ≡ []))
    ⊎ (HasNoRoute routes request × (status ≡ NotFound) × (fields.media ≡ Json) × (body ≡ []) × (cause ≡ []))
