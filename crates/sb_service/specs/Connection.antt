-- What a list server answers to a request, over the history that it was lent.
use Rattle.std.specs.Prelude.{◌≡◌, ℕ, List, [], ◌∷◌, map, slice_get, Option, Some, option_map, codes}
use Rattle.std.specs.Option.{unwrap_or}
use Rattle.sb_json.specs.Printed.{message_cause_text as message_cause}
use Rattle.sb_json.specs.Values.{value_of}
use Rattle.sb_json.specs.declared.faults.MessageFault.{MessageFault}
use Rattle.sb_outside.specs.declared.links.Kind.{Kind}
use Rattle.sb_outside.specs.declared.links.Kind.TheVariants.{Update, Find}
use Rattle.sb_model.specs.History.{History}
use Rattle.http_edge.specs.Exchanges.{path_of_kind}
use Rattle.http_edge.specs.Requests.{ReadsAsRequest}
use Rattle.http_edge.specs.declared.messages.Allow.{Allow}
use Rattle.http_edge.specs.declared.messages.Allow.TheVariants.{Get, Post}
use Rattle.http_edge.specs.declared.messages.HttpRequest.{HttpRequest}
use Rattle.http_edge.specs.declared.messages.MediaType.{MediaType}
use Rattle.http_edge.specs.declared.messages.MediaType.TheVariants.{Json}
use Rattle.http_edge.specs.declared.messages.ResponseFields.{ResponseFields}
use Rattle.http_edge.specs.declared.messages.Status.{Status}
use Rattle.http_edge.specs.declared.messages.Status.TheVariants.{Success, BadRequest}
use Rattle.http_serving.specs.Routes.{AsksAt, Route, RoutedAnswer}
use Rattle.http_serving.specs.declared.forms.Form.{Form}
use Rattle.http_serving.specs.declared.forms.Form.TheVariants.{Plain, Protobuf, Query}
use Rattle.named_answers.specs.Answers.{named_fetch_answer, named_find_answer}
use Rattle.update_messages.specs.Faults.{fault_of_request, fault_of_text}
use Rattle.update_messages.specs.Messages.{Request}
use Rattle.update_messages.specs.Reading.{ReadsRequest, IsTextOf}
use Rattle.update_messages.specs.Writing.{spelling_of_response}
use Rattle.hash_messages.specs.Faults.{fault_of_find_request}
use Rattle.hash_messages.specs.Messages.{AskedHashes}
use Rattle.hash_messages.specs.Reading.{ReadsFindRequest}
use Rattle.hash_messages.specs.Writing.{spelling_of_find_response}
use Rattle.lookup_messages.specs.Faults.{fault_of_lookup}
use Rattle.lookup_messages.specs.Messages.{AskedUrls}
use Rattle.lookup_messages.specs.Reading.{ReadsLookup}
use Rattle.lookup_messages.specs.Writing.{spelling_of_lookup_response}
use Rattle.sb_lookup.specs.Lookups.{lists_text, served_lookup}
use Rattle.proto_messages.specs.Printed.{proto_cause_text}
use Rattle.proto_messages.specs.declared.fault.ProtoFault.{ProtoFault}
use Rattle.delta_server.specs.Tokens.{server_naming}
use Rattle.delta_server.specs.declared.answering.Settings.{Settings}
use Rattle.sb_service.specs.declared.connection.ListRoute.{ListRoute}
use Rattle.sb_service.specs.declared.connection.ListRoute.TheVariants.{Updates, Hashes, Lookups, Lists}
use Rattle.sb_service.specs.ProtoTexts.{media_in, IsProtoFault, IsProtoMessage, IsProtoText}

-- ---- what a request is answered

-- the updates that a message asks for, of those items for which a list answers
abbrev pub updates_text : History → Settings → Request → List ℕ
updates_text history times message = spelling_of_response (named_fetch_answer history (server_naming history) times.wait message)

-- the full hashes that a message asks for
abbrev pub matches_text : History → Settings → AskedHashes → List ℕ
matches_text history times message =
    spelling_of_find_response (named_find_answer history times.find_wait times.cache times.negative message)

-- the matches of the URLs that a message asks for
abbrev pub lookups_text : History → Settings → AskedUrls → List ℕ
lookups_text history times message = spelling_of_lookup_response (served_lookup history times.cache message)

-- The answer to the body of a request for updates, to that of one for full hashes, and to that of one to look URLs up. Other
-- bodies have none.
abbrev pub IsUpdatesText : History → Settings → List ℕ → List ℕ → Type 0
IsUpdatesText history times body text =
    (message : Request) × IsTextOf ReadsRequest body message × (text ≡ updates_text history times message)

abbrev pub IsMatchesText : History → Settings → List ℕ → List ℕ → Type 0
IsMatchesText history times body text =
    (message : AskedHashes) × IsTextOf ReadsFindRequest body message × (text ≡ matches_text history times message)

abbrev pub IsLookupsText : History → Settings → List ℕ → List ℕ → Type 0
IsLookupsText history times body text =
    (message : AskedUrls) × IsTextOf ReadsLookup body message × (text ≡ lookups_text history times message)

-- ---- routes

-- the paths that only a server of full hashes has: that of look-ups, and that of the names of lists
unfoldable pub lookups_path : List ℕ
lookups_path = codes "/v4/threatMatches:find"

unfoldable pub lists_path : List ℕ
lists_path = codes "/v4/threatLists"

-- The routes of a list server: updates and full hashes each by a POST in Protocol Buffers, by any other POST, and by a GET with the
-- message in its query; then look-ups, and the names of its lists.
abbrev pub routes_in_order : List ListRoute
routes_in_order =
    Updates Protobuf ∷ Updates Plain ∷ Updates Query ∷ Hashes Protobuf ∷ Hashes Plain ∷ Hashes Query ∷ Lookups ∷ Lists ∷ []

-- the path of a route
abbrev pub path_for : ListRoute → List ℕ
path_for (Updates form) = path_of_kind Update
path_for (Hashes form) = path_of_kind Find
path_for Lookups = lookups_path
path_for Lists = lists_path

-- the method of a route
abbrev pub allow_in : Form → Allow
allow_in Plain = Post
allow_in Protobuf = Post
allow_in Query = Get

abbrev pub allow_for : ListRoute → Allow
allow_for (Updates form) = allow_in form
allow_for (Hashes form) = allow_in form
allow_for Lookups = Post
allow_for Lists = Get

-- the form of the requests that a route takes
abbrev pub form_for : ListRoute → Form
form_for (Updates form) = form
form_for (Hashes form) = form
form_for Lookups = Plain
form_for Lists = Plain

abbrev pub row_of : ListRoute → Route
row_of route = record { path = path_for route; method = allow_for route; form = form_for route }

-- the table
abbrev pub list_routes : List Route
list_routes = map row_of routes_in_order

-- the route at a place of it
abbrev pub route_at : ℕ → ListRoute
route_at place = unwrap_or (slice_get routes_in_order place) Lists

-- ---- the answer by the route

-- The answer to a request by its form: in JSON that to its body, in Protocol Buffers that to its message.
abbrev pub IsTextInForm : (InJson InProto : (message text : List ℕ) → Type 0) → Form → HttpRequest → List ℕ → Type 0
IsTextInForm InJson InProto Plain request text = InJson request.body text
IsTextInForm InJson InProto form request text = (message : List ℕ) × IsProtoMessage form request message × InProto message text

-- the answer to a request, by the route: the names of lists are told whatever it has
abbrev pub IsTextFor : History → Settings → ListRoute → HttpRequest → List ℕ → Type 0
IsTextFor history times (Updates form) request text = IsTextInForm (IsUpdatesText history times) (IsProtoText history times Update) form request text
IsTextFor history times (Hashes form) request text = IsTextInForm (IsMatchesText history times) (IsProtoText history times Find) form request text
IsTextFor history times Lookups request text = IsLookupsText history times request.body text
IsTextFor history times Lists request text = text ≡ lists_text history

-- the same by the place of the route
abbrev pub IsTextAt : History → Settings → ℕ → HttpRequest → List ℕ → Type 0
IsTextAt history times place request text = IsTextFor history times (route_at place) request text

-- the type that the answer names, by the route
abbrev pub media_for : ListRoute → MediaType
media_for (Updates form) = media_in form
media_for (Hashes form) = media_in form
media_for Lookups = Json
media_for Lists = Json

-- the fields of its responses: its method, and the type that its answers name
abbrev pub fields_for : ListRoute → ResponseFields
fields_for route = record { allow = allow_for route; media = media_for route }

-- ---- the cause by the route

-- The cause that is told of a request that has no answer, by its form: the first fault of its body as `answer` prints it, and in Protocol
-- Buffers the first fault of the request.
abbrev pub IsCauseInForm : (List ℕ → Option MessageFault) → Kind → Form → HttpRequest → List ℕ → Type 0
IsCauseInForm fault_in wanted Plain request cause = option_map message_cause (fault_in request.body) ≡ Some cause
IsCauseInForm fault_in wanted form request cause = (fault : ProtoFault) × IsProtoFault wanted form request fault × (cause ≡ proto_cause_text fault)

-- the first fault of a body, of a message that asks for updates, for full hashes, or to look URLs up
abbrev pub updates_fault : List ℕ → Option MessageFault
updates_fault body = fault_of_text fault_of_request (value_of body)

abbrev pub hashes_fault : List ℕ → Option MessageFault
hashes_fault body = fault_of_text fault_of_find_request (value_of body)

abbrev pub lookups_fault : List ℕ → Option MessageFault
lookups_fault body = fault_of_text fault_of_lookup (value_of body)

-- the cause, by the route: a request for the names of lists has none
abbrev pub IsCauseFor : ListRoute → HttpRequest → List ℕ → Type 0
IsCauseFor (Updates form) request cause = IsCauseInForm updates_fault Update form request cause
IsCauseFor (Hashes form) request cause = IsCauseInForm hashes_fault Find form request cause
IsCauseFor Lookups request cause = option_map message_cause (lookups_fault request.body) ≡ Some cause
IsCauseFor Lists request cause = ⊥

abbrev pub IsCauseAt : ℕ → HttpRequest → List ℕ → Type 0
IsCauseAt place request cause = IsCauseFor (route_at place) request cause

-- ---- what a request is answered

-- When a response to a request that asks for a route has a status, and with which body and cause: 200 with the answer to the request,
-- and 400 with the cause if it has none. At most one status is right. Each names the type of the route.
abbrev pub IsResponseFor : History → Settings → ListRoute → HttpRequest → Status → ResponseFields → (body cause : List ℕ) → Type 0
IsResponseFor history times route request Success fields body cause =
    IsTextFor history times route request body × (fields.media ≡ media_for route) × (cause ≡ [])
IsResponseFor history times route request BadRequest fields body cause =
    ((text : List ℕ) → ¬ IsTextFor history times route request text) × (fields.media ≡ media_for route) × (body ≡ []) × IsCauseFor route request cause
IsResponseFor history times route request status fields body cause = ⊥

-- the same by the place of the route
abbrev pub IsResponseAt : History → Settings → ℕ → HttpRequest → Status → ResponseFields → (body cause : List ℕ) → Type 0
IsResponseAt history times place = IsResponseFor history times (route_at place)

-- The same of any request: 404 where no route has its path, and 405 with `Allow` where it has another method, both without a cause.
abbrev pub IsResponseTo : History → Settings → HttpRequest → Status → ResponseFields → (body cause : List ℕ) → Type 0
IsResponseTo history times = RoutedAnswer list_routes (IsResponseAt history times)

-- ---- what has to be answered

-- The bytes begin with a whole request that asks for a route, and it has this answer.
pub record HasGoodRequest (history : History) (times : Settings) (bytes text : List ℕ) : Type 0 where
  pub request : HttpRequest
  pub reads : ReadsAsRequest bytes request
  pub place : ℕ
  pub asks : AsksAt list_routes request place
  pub answer : IsTextAt history times place request text

-- ---- a list server

-- A list server: its history, and what it says of times.
pub record ListServed : Type 0 where
  pub versions : History
  pub times : Settings
