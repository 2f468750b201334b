-- What a list server answers: one response to a request, by what it reads as.
use Rattle.std.proofs.Common.{◌≡◌, ◌≢◌, ◌⊎◌, ℕ, List, [], Option, Some, None, Result, Ok, Err, IfOk, IfSome, refl, sym, ap, ◌∙◌, subst, inl, inr}
use Rattle.std.specs.Prelude.{option_map}
use Rattle.serde_json.specs.Data.{Data}
use Rattle.sb_outside.specs.Outside.{next_piece}
use Rattle.sb_model.specs.History.{History}
use Rattle.sb_model.specs.declared.memory.OutOfMemory.{OutOfMemory}
use Rattle.http_edge.specs.declared.messages.HttpRequest.{HttpRequest}
use Rattle.http_edge.specs.declared.messages.MediaType.TheVariants.{Json}
use Rattle.http_edge.specs.declared.messages.ResponseFields.{ResponseFields}
use Rattle.http_edge.specs.declared.messages.Status.{Status}
use Rattle.http_edge.specs.declared.messages.Status.TheVariants.{Success, BadRequest, NotFound, MethodNotAllowed, LengthRequired, ContentTooLarge, FieldsTooLarge, BadGateway, ServiceUnavailable}
use Rattle.http_serving.specs.Law.{AsksForOneThing, HasOneAnswer}
use Rattle.http_serving.specs.Serving.{AnswersAtMost, IsComplete}
use Rattle.http_serving.specs.declared.ends.ConnectionEnd.{ConnectionEnd}
use Rattle.http_serving.specs.declared.responses.Response.{Response}
use Rattle.sb_json.specs.Printed.{message_cause_text as message_cause}
use Rattle.sb_json.specs.Values.{value_of}
use Rattle.sb_json.specs.declared.faults.MessageFault.{MessageFault}
use Rattle.sb_json.specs.declared.faults.MessageFault.TheVariants.{OutOfMemory as no_memory}
use Rattle.delta_server.specs.declared.answering.Settings.{Settings}
use Rattle.update_messages.specs.Faults.{fault_of_request, fault_of_text}
use Rattle.update_messages.specs.Messages.{Request}
use Rattle.update_messages.specs.Reading.{ReadsRequest as ReadsMessage, IsTextOf}
use Rattle.hash_messages.specs.Faults.{fault_of_find_request}
use Rattle.hash_messages.specs.Messages.{AskedHashes}
use Rattle.hash_messages.specs.Reading.{ReadsFindRequest}
use Rattle.lookup_messages.specs.Faults.{fault_of_lookup}
use Rattle.lookup_messages.specs.Messages.{AskedUrls}
use Rattle.lookup_messages.specs.Reading.{ReadsLookup}
use Rattle.sb_lookup.specs.Lookups.{lists_text}
use Rattle.http_serving.specs.declared.forms.Form.TheVariants.{Plain}
use Rattle.sb_outside.specs.declared.links.Kind.TheVariants.{Update, Find}
use Rattle.proto_messages.specs.Query.{QueriesReadOneWay}
use Rattle.sb_service.specs.declared.connection.ListRoute.{ListRoute}
use Rattle.sb_service.specs.declared.connection.ListRoute.TheVariants.{Updates, Hashes, Lookups, Lists}
use Rattle.sb_service.specs.Connection.{fields_for, hashes_fault, list_routes, lookups_fault, lookups_text, matches_text, media_for, route_at, updates_fault, updates_text, HasGoodRequest, IsCauseFor, IsLookupsText, IsMatchesText, IsResponseAt, IsResponseFor, IsResponseTo, IsTextFor, IsUpdatesText}
use Rattle.sb_service.specs.ConnectionLaws.{AlwaysTellsLists, TellsFirstFault}
use Rattle.sb_service.specs.ConnectionSteps.{IsBareRefusal}
use Rattle.sb_service.proofs.ProtoFacts.{one_cause_in_form, one_in_form}

-- ---- one message

-- a value reads as one message of each kind
pub record ReadsOneWay : Type 0 where
  pub updates : (value : Data) (a b : Request) → ReadsMessage value a → ReadsMessage value b → a ≡ b
  pub hashes : (value : Data) (a b : AskedHashes) → ReadsFindRequest value a → ReadsFindRequest value b → a ≡ b
  pub lookups : (value : Data) (a b : AskedUrls) → ReadsLookup value a → ReadsLookup value b → a ≡ b

pub one_message : {M : Type 0} (Reads : Data → M → Type 0) → ((value : Data) (a b : M) → Reads value a → Reads value b → a ≡ b)
    → (text : List ℕ) (a b : M) → IsTextOf Reads text a → IsTextOf Reads text b → a ≡ b
one_message Reads one text a b (v, says, reads) (w, tells, reads') =
    let same : v ≡ w = cc in
    one w a b (subst (λ x. Reads x a) same reads) reads'

-- ---- one answer

module _ (one : ReadsOneWay) (queries : QueriesReadOneWay) (history : History) (times : Settings) where
  one_updates : (body a b : List ℕ) → IsUpdatesText history times body a → IsUpdatesText history times body b → a ≡ b
  one_updates body a b (m, reads, is) (n, reads', is') =
      is ∙ ap (updates_text history times) (one_message ReadsMessage one.updates body m n reads reads') ∙ sym is'

  one_matches : (body a b : List ℕ) → IsMatchesText history times body a → IsMatchesText history times body b → a ≡ b
  one_matches body a b (m, reads, is) (n, reads', is') =
      is ∙ ap (matches_text history times) (one_message ReadsFindRequest one.hashes body m n reads reads') ∙ sym is'

  one_lookups : (body a b : List ℕ) → IsLookupsText history times body a → IsLookupsText history times body b → a ≡ b
  one_lookups body a b (m, reads, is) (n, reads', is') =
      is ∙ ap (lookups_text history times) (one_message ReadsLookup one.lookups body m n reads reads') ∙ sym is'

  one_text : (route : ListRoute) (request : HttpRequest) (a b : List ℕ) → IsTextFor history times route request a → IsTextFor history times route request b → a ≡ b
  one_text (Updates form) request a b is is' = one_in_form queries history times Update (IsUpdatesText history times) one_updates form request a b is is'
  one_text (Hashes form) request a b is is' = one_in_form queries history times Find (IsMatchesText history times) one_matches form request a b is is'
  one_text Lookups request a b is is' = one_lookups request.body a b is is'
  one_text Lists request a b is is' = is ∙ sym is'

some_of : {A : Type 0} (a b : A) → Some a ≡ Some b → a ≡ b
some_of a b e = cc

one_cause : QueriesReadOneWay → (route : ListRoute) (request : HttpRequest) (a b : List ℕ) → IsCauseFor route request a → IsCauseFor route request b → a ≡ b
one_cause queries (Updates form) request a b is is' = one_cause_in_form queries updates_fault Update form request a b is is'
one_cause queries (Hashes form) request a b is is' = one_cause_in_form queries hashes_fault Find form request a b is is'
one_cause queries Lookups request a b is is' = some_of a b (sym is ∙ is')
one_cause queries Lists request a b is is' = absurd is

one_for : ReadsOneWay → QueriesReadOneWay → (history : History) (times : Settings) (route : ListRoute) (request : HttpRequest) → HasOneAnswer (IsResponseFor history times route) request
one_for one queries history times route request Success Success fields other a b why because is is' = (refl, refl, is.1 ∙ sym is'.1, one_text one queries history times route request a b is.0 is'.0, is.2 ∙ sym is'.2)
one_for one queries history times route request Success BadRequest fields other a b why because is is' = absurd (is'.0 a is.0)
one_for one queries history times route request Success NotFound fields other a b why because is is' = absurd is'
one_for one queries history times route request Success MethodNotAllowed fields other a b why because is is' = absurd is'
one_for one queries history times route request Success LengthRequired fields other a b why because is is' = absurd is'
one_for one queries history times route request Success ContentTooLarge fields other a b why because is is' = absurd is'
one_for one queries history times route request Success FieldsTooLarge fields other a b why because is is' = absurd is'
one_for one queries history times route request Success BadGateway fields other a b why because is is' = absurd is'
one_for one queries history times route request Success ServiceUnavailable fields other a b why because is is' = absurd is'
one_for one queries history times route request BadRequest Success fields other a b why because is is' = absurd (is.0 b is'.0)
one_for one queries history times route request BadRequest BadRequest fields other a b why because is is' = (refl, refl, is.1 ∙ sym is'.1, is.2 ∙ sym is'.2, one_cause queries route request why because is.3 is'.3)
one_for one queries history times route request BadRequest NotFound fields other a b why because is is' = absurd is'
one_for one queries history times route request BadRequest MethodNotAllowed fields other a b why because is is' = absurd is'
one_for one queries history times route request BadRequest LengthRequired fields other a b why because is is' = absurd is'
one_for one queries history times route request BadRequest ContentTooLarge fields other a b why because is is' = absurd is'
one_for one queries history times route request BadRequest FieldsTooLarge fields other a b why because is is' = absurd is'
one_for one queries history times route request BadRequest BadGateway fields other a b why because is is' = absurd is'
one_for one queries history times route request BadRequest ServiceUnavailable fields other a b why because is is' = absurd is'
one_for one queries history times route request NotFound second fields other a b why because is is' = absurd is
one_for one queries history times route request MethodNotAllowed second fields other a b why because is is' = absurd is
one_for one queries history times route request LengthRequired second fields other a b why because is is' = absurd is
one_for one queries history times route request ContentTooLarge second fields other a b why because is is' = absurd is
one_for one queries history times route request FieldsTooLarge second fields other a b why because is is' = absurd is
one_for one queries history times route request BadGateway second fields other a b why because is is' = absurd is
one_for one queries history times route request ServiceUnavailable second fields other a b why because is is' = absurd is

pub one_response : ReadsOneWay → QueriesReadOneWay → (history : History) (times : Settings) (place : ℕ) (request : HttpRequest) → HasOneAnswer (IsResponseAt history times place) request
one_response one queries history times place request = one_for one queries history times (route_at place) request

-- a whole request that has an answer was answered with that
pub complete_of : (history : History) (times : Settings) (how : ConnectionEnd) (left : Option (List (List ℕ))) (before after : Option (List ℕ))
    → IfSome left (λ pieces. IsComplete (IsResponseTo history times) pieces how before after)
    → IfSome left (λ pieces. (text : List ℕ) (good : HasGoodRequest history times (next_piece pieces) text) → AnswersAtMost Success (fields_for (route_at good.place)) text [] how before after)
complete_of history times how None before after is = tt
complete_of history times how (Some pieces) before after is = λ text good.
    is Success (fields_for (route_at good.place)) text [] (record { request = good.request; reads = good.reads; right = inl (good.place, good.asks, (good.answer, refl, refl)) })

-- ---- the steps to a response

pub response_of_message : (history : History) (times : Settings) (request : HttpRequest) (message : Request) (status : Status) (fields : ResponseFields) (body cause : List ℕ)
    → IsTextOf ReadsMessage request.body message → status ≡ Success → body ≡ updates_text history times message → fields.media ≡ Json → cause ≡ []
    → IsResponseAt history times 1 request status fields body cause
response_of_message history times request message status fields body cause reads success is json none =
    subst (λ (s : Status). IsResponseAt history times 1 request s fields body cause) (sym success) ((message, reads, is), json, none)

-- the cause of a refused body is its first fault
cause_told : (fault_in : List ℕ → Option MessageFault) (text body : List ℕ) (refusal : MessageFault) → text ≡ body
    → (refusal ≡ no_memory) ⊎ (fault_in text ≡ Some refusal) → (cause : List ℕ) → refusal ≢ no_memory → cause ≡ message_cause refusal
    → option_map message_cause (fault_in body) ≡ Some cause
cause_told fault_in text body refusal same (inl none) cause some told = absurd (some none)
cause_told fault_in text body refusal same (inr first) cause some told =
    subst (λ (t : List ℕ). option_map message_cause (fault_in t) ≡ Some cause) same (ap (option_map message_cause) first ∙ ap Some (sym told))

-- a request that was refused has no answer, unless memory was refused
refused_for : (history : History) (times : Settings) (route : ListRoute) (request : HttpRequest) (refusal : MessageFault) (result : Result Response OutOfMemory)
    → media_for route ≡ Json → ((answer : List ℕ) → IsTextFor history times route request answer → refusal ≡ no_memory)
    → ((cause : List ℕ) → refusal ≢ no_memory → cause ≡ message_cause refusal → IsCauseFor route request cause)
    → IfOk result (λ r. IsBareRefusal refusal r.status r.fields r.body r.cause)
    → IfOk result (λ r. IsResponseFor history times route request r.status r.fields r.body r.cause)
refused_for history times route request refusal (Ok r) named only first is =
    subst (λ (s : Status). IsResponseFor history times route request s r.fields r.body r.cause) (sym is.bad) (
      λ answer has. is.some (only answer has),
      is.json ∙ sym named,
      is.bare,
      first r.cause is.some is.told,
    )
refused_for history times route request refusal (Err refused) named only first is = tt

-- a request that was answered has this answer
answered_for : (history : History) (times : Settings) (route : ListRoute) (request : HttpRequest) (answer : List ℕ) (result : Result Response OutOfMemory)
    → media_for route ≡ Json → IsTextFor history times route request answer
    → IfOk result (λ r. r.status ≡ Success) → IfOk result (λ r. r.body ≡ answer) → IfOk result (λ r. r.fields.media ≡ Json) → IfOk result (λ r. r.cause ≡ [])
    → IfOk result (λ r. IsResponseFor history times route request r.status r.fields r.body r.cause)
answered_for history times route request answer (Ok r) named has success is json none =
    subst (λ (s : Status). IsResponseFor history times route request s r.fields r.body r.cause) (sym success)
    (subst (λ (b : List ℕ). IsTextFor history times route request b) (sym is) has, json ∙ sym named, none)
answered_for history times route request answer (Err refused) named has success is json none = tt

pub body_refused : (history : History) (times : Settings) (request : HttpRequest) (text : List ℕ) (refusal : MessageFault) (result : Result Response OutOfMemory)
    → text ≡ request.body → ((message : Request) → IsTextOf ReadsMessage text message → refusal ≡ no_memory)
    → (refusal ≡ no_memory) ⊎ (fault_of_text fault_of_request (value_of text) ≡ Some refusal)
    → IfOk result (λ r. IsBareRefusal refusal r.status r.fields r.body r.cause)
    → IfOk result (λ r. IsResponseFor history times (Updates Plain) request r.status r.fields r.body r.cause)
body_refused history times request text refusal result same only first is =
    refused_for history times (Updates Plain) request refusal result refl
    (λ answer has. only has.0 (subst (λ (t : List ℕ). IsTextOf ReadsMessage t has.0) (sym same) has.1))
    (cause_told updates_fault text request.body refusal same first) is

pub hashes_answered : (history : History) (times : Settings) (request : HttpRequest) (text : List ℕ) (message : AskedHashes) (result : Result Response OutOfMemory)
    → text ≡ request.body → IsTextOf ReadsFindRequest text message
    → IfOk result (λ r. r.status ≡ Success) → IfOk result (λ r. r.body ≡ matches_text history times message) → IfOk result (λ r. r.fields.media ≡ Json) → IfOk result (λ r. r.cause ≡ [])
    → IfOk result (λ r. IsResponseFor history times (Hashes Plain) request r.status r.fields r.body r.cause)
hashes_answered history times request text message result same reads success is json none =
    answered_for history times (Hashes Plain) request (matches_text history times message) result refl
    (message, subst (λ (t : List ℕ). IsTextOf ReadsFindRequest t message) same reads, refl) success is json none

pub hashes_refused : (history : History) (times : Settings) (request : HttpRequest) (text : List ℕ) (refusal : MessageFault) (result : Result Response OutOfMemory)
    → text ≡ request.body → ((message : AskedHashes) → IsTextOf ReadsFindRequest text message → refusal ≡ no_memory)
    → (refusal ≡ no_memory) ⊎ (fault_of_text fault_of_find_request (value_of text) ≡ Some refusal)
    → IfOk result (λ r. IsBareRefusal refusal r.status r.fields r.body r.cause)
    → IfOk result (λ r. IsResponseFor history times (Hashes Plain) request r.status r.fields r.body r.cause)
hashes_refused history times request text refusal result same only first is =
    refused_for history times (Hashes Plain) request refusal result refl
    (λ answer has. only has.0 (subst (λ (t : List ℕ). IsTextOf ReadsFindRequest t has.0) (sym same) has.1))
    (cause_told hashes_fault text request.body refusal same first) is

pub lookups_answered : (history : History) (times : Settings) (request : HttpRequest) (text : List ℕ) (message : AskedUrls) (result : Result Response OutOfMemory)
    → text ≡ request.body → IsTextOf ReadsLookup text message
    → IfOk result (λ r. r.status ≡ Success) → IfOk result (λ r. r.body ≡ lookups_text history times message) → IfOk result (λ r. r.fields.media ≡ Json) → IfOk result (λ r. r.cause ≡ [])
    → IfOk result (λ r. IsResponseFor history times Lookups request r.status r.fields r.body r.cause)
lookups_answered history times request text message result same reads success is json none =
    answered_for history times Lookups request (lookups_text history times message) result refl
    (message, subst (λ (t : List ℕ). IsTextOf ReadsLookup t message) same reads, refl) success is json none

pub lookups_refused : (history : History) (times : Settings) (request : HttpRequest) (text : List ℕ) (refusal : MessageFault) (result : Result Response OutOfMemory)
    → text ≡ request.body → ((message : AskedUrls) → IsTextOf ReadsLookup text message → refusal ≡ no_memory)
    → (refusal ≡ no_memory) ⊎ (fault_of_text fault_of_lookup (value_of text) ≡ Some refusal)
    → IfOk result (λ r. IsBareRefusal refusal r.status r.fields r.body r.cause)
    → IfOk result (λ r. IsResponseFor history times Lookups request r.status r.fields r.body r.cause)
lookups_refused history times request text refusal result same only first is =
    refused_for history times Lookups request refusal result refl
    (λ answer has. only has.0 (subst (λ (t : List ℕ). IsTextOf ReadsLookup t has.0) (sym same) has.1))
    (cause_told lookups_fault text request.body refusal same first) is

pub lists_answered : (history : History) (times : Settings) (request : HttpRequest) (result : Result Response OutOfMemory)
    → IfOk result (λ r. r.status ≡ Success) → IfOk result (λ r. r.body ≡ lists_text history) → IfOk result (λ r. r.fields.media ≡ Json) → IfOk result (λ r. r.cause ≡ [])
    → IfOk result (λ r. IsResponseFor history times Lists request r.status r.fields r.body r.cause)
lists_answered history times request result success is json none =
    answered_for history times Lists request (lists_text history) result refl refl success is json none

-- ---- a request without an answer

refused_at : (history : History) (times : Settings) (request : HttpRequest) (route : ListRoute) → ((text : List ℕ) → ¬ IsTextFor history times route request text)
    → (status : Status) (fields : ResponseFields) (body cause : List ℕ) → IsResponseFor history times route request status fields body cause
    → (status ≡ BadRequest) × (body ≡ []) × IsCauseFor route request cause
refused_at history times request route none Success fields body cause is = absurd (none body is.0)
refused_at history times request route none BadRequest fields body cause is = (refl, is.2, is.3)
refused_at history times request route none NotFound fields body cause is = absurd is
refused_at history times request route none MethodNotAllowed fields body cause is = absurd is
refused_at history times request route none LengthRequired fields body cause is = absurd is
refused_at history times request route none ContentTooLarge fields body cause is = absurd is
refused_at history times request route none FieldsTooLarge fields body cause is = absurd is
refused_at history times request route none BadGateway fields body cause is = absurd is
refused_at history times request route none ServiceUnavailable fields body cause is = absurd is

pub first_fault_told : ((request : HttpRequest) → AsksForOneThing list_routes request) → (history : History) (times : Settings) (request : HttpRequest) → TellsFirstFault history times request
first_fault_told one history times request place asks none status fields body cause (inl (p, asks', right)) =
    refused_at history times request (route_at place) none status fields body cause
    (subst (λ (k : ℕ). IsResponseAt history times k request status fields body cause) ((one request place asks).only p asks') right)
first_fault_told one history times request place asks none status fields body cause (inr (inl (wrong, code, json, bare, untold))) =
    absurd ((one request place asks).taken fields.allow wrong)
first_fault_told one history times request place asks none status fields body cause (inr (inr (missing, code, json, bare, untold))) =
    absurd ((one request place asks).found missing)

-- ---- the names of lists

told_for : (history : History) (times : Settings) (request : HttpRequest) (status : Status) (fields : ResponseFields) (body cause : List ℕ)
    → IsResponseFor history times Lists request status fields body cause → (status ≡ Success) × (body ≡ lists_text history) × (cause ≡ [])
told_for history times request Success fields body cause is = (refl, is.0, is.2)
told_for history times request BadRequest fields body cause is = absurd (is.0 (lists_text history) refl)
told_for history times request NotFound fields body cause is = absurd is
told_for history times request MethodNotAllowed fields body cause is = absurd is
told_for history times request LengthRequired fields body cause is = absurd is
told_for history times request ContentTooLarge fields body cause is = absurd is
told_for history times request FieldsTooLarge fields body cause is = absurd is
told_for history times request BadGateway fields body cause is = absurd is
told_for history times request ServiceUnavailable fields body cause is = absurd is

pub lists_told : ((request : HttpRequest) → AsksForOneThing list_routes request) → (history : History) (times : Settings) (request : HttpRequest) → AlwaysTellsLists history times request
lists_told one history times request asks status fields body cause (inl (p, asks', right)) =
    told_for history times request status fields body cause
    (subst (λ (k : ℕ). IsResponseAt history times k request status fields body cause) ((one request 7 asks).only p asks') right)
lists_told one history times request asks status fields body cause (inr (inl (wrong, code, json, bare, untold))) =
    absurd ((one request 7 asks).taken fields.allow wrong)
lists_told one history times request asks status fields body cause (inr (inr (missing, code, json, bare, untold))) =
    absurd ((one request 7 asks).found missing)
