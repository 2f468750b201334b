-- One response is right for a request, by what its body reads as.
use Rattle.std.proofs.lemmas.List.Quantifiers.{position-Some}
use Rattle.std.proofs.Common.{zero, suc, arith, ◌≡◌, ◌≢◌, ◌⊎◌, ℕ, false, true, List, [], Option, Some, Result, Ok, Err, IfOk, refl, sym, ap, ◌∙◌, subst, inl, inr}
use Rattle.std.specs.Prelude.{option_map}
use Rattle.sb_model.specs.declared.memory.OutOfMemory.{OutOfMemory}
use Rattle.sb_json.specs.Printed.{message_cause_text as message_cause}
use Rattle.sb_json.specs.declared.faults.MessageFault.{MessageFault}
use Rattle.sb_json.specs.declared.faults.MessageFault.TheVariants.{OutOfMemory as no_memory}
use Rattle.http_edge.specs.Responses.{allow_line}
use Rattle.http_edge.specs.declared.faults.RequestFault.{RequestFault}
use Rattle.http_edge.specs.declared.messages.Allow.{Allow}
use Rattle.http_edge.specs.declared.messages.HttpRequest.{HttpRequest}
use Rattle.http_edge.specs.declared.messages.MediaType.TheVariants.{Json}
use Rattle.http_edge.specs.declared.messages.ResponseFields.{ResponseFields}
use Rattle.http_edge.specs.declared.messages.Status.{Status}
use Rattle.http_edge.specs.declared.messages.Status.TheVariants.{Success, BadRequest, ServiceUnavailable}
use Rattle.http_serving.specs.Law.{AsksForOneThing, HasOneAnswer}
use Rattle.http_serving.specs.Routes.{takes, AsksAt, IsRouted, Route}
use Rattle.http_serving.specs.declared.routes.Routed.{Routed}
use Rattle.http_serving.specs.declared.routes.Routed.TheVariants.{NoPath, OtherMethod}
use Rattle.http_serving.specs.declared.responses.Response.{Response}
use Rattle.update_messages.specs.Reading.{IsTextOf}
use Rattle.lookup_messages.specs.Messages.{AskedUrls}
use Rattle.lookup_messages.specs.Reading.{ReadsLookup}
use Rattle.lookup_messages.specs.Writing.{spelling_of_lookup_response}
use Rattle.proxy_serving.specs.HeardLook.{place_of_looks, IsHeardLook}
use Rattle.proxy_serving.specs.Response.{look_body_fault, proxy_route, proxy_routes, IsLookBody, IsLookRefused, IsLookResponseBy, IsLookTold, IsProxyResponseAt}
use Rattle.proxy_serving.specs.ResponseLaws.{IsAnsweredByLook, IsAnsweredWithoutLook, RefusesWhateverLook}
use Rattle.proxy_serving.specs.declared.fate.LookFate.{LookFate}
use Rattle.proxy_serving.specs.declared.fate.LookFate.TheVariants.{Unanswered, Answered}

-- ---- one response

-- two statuses, the methods that they allow, and two bodies are the same
abbrev AreSame : (first second : Status) (fields other : ResponseFields) (a b : List ℕ) → Type 0
AreSame first second fields other a b = (first ≡ second) × (allow_line first fields.allow ≡ allow_line second other.allow) × (a ≡ b)

-- they are if both are these
both_are : (status : Status) (body : List ℕ) → ((allow : Allow) → allow_line status allow ≡ []) → (first second : Status) (fields other : ResponseFields) (a b : List ℕ)
    → first ≡ status → second ≡ status → a ≡ body → b ≡ body → AreSame first second fields other a b
both_are status body none first second fields other a b is is' tells tells' = (
  is ∙ sym is',
  ap (λ (s : Status). allow_line s fields.allow) is ∙ none fields.allow ∙ sym (ap (λ (s : Status). allow_line s other.allow) is' ∙ none other.allow),
  tells ∙ sym tells',
)

told_once : (fate : LookFate) (first second : Status) (fields other : ResponseFields) (a b : List ℕ) → IsLookTold fate first a → IsLookTold fate second b → AreSame first second fields other a b
told_once Unanswered first second fields other a b is is' = both_are ServiceUnavailable [] (λ allow. refl) first second fields other a b is.0 is'.0 is.1 is'.1
told_once (Answered message) first second fields other a b is is' =
    both_are Success (spelling_of_lookup_response message) (λ allow. refl) first second fields other a b is.0 is'.0 is.1 is'.1

refused_once : (fault : Option MessageFault) (first second : Status) (fields other : ResponseFields) (a b why because : List ℕ)
    → IsLookRefused fault first a why → IsLookRefused fault second b because → AreSame first second fields other a b × (why ≡ because)
refused_once fault first second fields other a b why because is is' =
    let told : Some why ≡ Some because = sym is.2 ∙ is'.2 in
    (both_are BadRequest [] (λ allow. refl) first second fields other a b is.0 is'.0 is.1 is'.1, cc)

-- that of all parts
abbrev IsOne : (first second : Status) (fields other : ResponseFields) (a b why because : List ℕ) → Type 0
IsOne first second fields other a b why because =
    (first ≡ second) × (allow_line first fields.allow ≡ allow_line second other.allow) × (fields.media ≡ other.media) × (a ≡ b) × (why ≡ because)

one_of : (first second : Status) (fields other : ResponseFields) (a b why because : List ℕ) → AreSame first second fields other a b → fields.media ≡ Json → other.media ≡ Json → why ≡ because
    → IsOne first second fields other a b why because
one_of first second fields other a b why because same json json' told = (same.0, same.1, json ∙ sym json', same.2, told)

one_look : (fate : LookFate) (asked : List ℕ) (first second : Status) (fields other : ResponseFields) (a b why because : List ℕ)
    → IsLookResponseBy fate asked first fields a why → IsLookResponseBy fate asked second other b because → IsOne first second fields other a b why because
one_look fate asked first second fields other a b why because (inl (reads, told, untold), json) (inl (reads', told', untold'), json') =
    one_of first second fields other a b why because (told_once fate first second fields other a b told told') json json' (untold ∙ sym untold')
one_look fate asked first second fields other a b why because (inl (reads, told, untold), json) (inr (none, refused), json') = absurd (none reads)
one_look fate asked first second fields other a b why because (inr (none, refused), json) (inl (reads, told, untold), json') = absurd (none reads)
one_look fate asked first second fields other a b why because (inr (none, refused), json) (inr (none', refused'), json') =
    let same = refused_once (look_body_fault asked) first second fields other a b why because refused refused' in
    one_of first second fields other a b why because same.0 json json' same.1

pub one_response : (fate : LookFate) (place : ℕ) (request : HttpRequest) → HasOneAnswer (IsProxyResponseAt fate place) request
one_response fate place request first second fields other a b why because is is' = one_look fate request.body first second fields other a b why because is is'

-- ---- a body that is no message

refused_by : (fate : LookFate) (request : HttpRequest) → (IsLookBody request.body → ⊥)
    → (status : Status) (fields : ResponseFields) (body cause : List ℕ) → IsLookResponseBy fate request.body status fields body cause
    → IsLookRefused (look_body_fault request.body) status body cause
refused_by fate request none status fields body cause (inl (reads, told, untold), json) = absurd (none reads)
refused_by fate request none status fields body cause (inr (none', refused), json) = refused

pub refused_whatever : ((request : HttpRequest) → AsksForOneThing proxy_routes request) → (fate : LookFate) (request : HttpRequest) → RefusesWhateverLook fate request
refused_whatever one fate request place asks none status fields body cause (inl (p, asks', right)) = refused_by fate request none status fields body cause right
refused_whatever one fate request place asks none status fields body cause (inr (inl (wrong, code, json, bare, untold))) =
    absurd ((one request place asks).taken fields.allow wrong)
refused_whatever one fate request place asks none status fields body cause (inr (inr (missing, code, json, bare, untold))) =
    absurd ((one request place asks).found missing)

-- ---- look-ups that are put off

told_by_fate : (fate : LookFate) (request : HttpRequest) (message : AskedUrls) → IsTextOf ReadsLookup request.body message
    → (status : Status) (fields : ResponseFields) (body cause : List ℕ) → IsLookResponseBy fate request.body status fields body cause
    → IsLookTold fate status body × (cause ≡ [])
told_by_fate fate request message reads status fields body cause (inl (is, told, untold), json) = (told, untold)
told_by_fate fate request message reads status fields body cause (inr (none, refused), json) = absurd (none (message, reads))

pub answered_by_fate : ((request : HttpRequest) → AsksForOneThing proxy_routes request) → (fate : LookFate) (received : Result HttpRequest RequestFault)
    → IsAnsweredByLook fate received
answered_by_fate one fate (Err fault) message heard status fields body cause is = absurd heard
answered_by_fate one fate (Ok request) message (asks, reads) status fields body cause (inl (p, asks', right)) = told_by_fate fate request message reads status fields body cause right
answered_by_fate one fate (Ok request) message (asks, reads) status fields body cause (inr (inl (wrong, code, json, bare, untold))) =
    absurd ((one request place_of_looks asks).taken fields.allow wrong)
answered_by_fate one fate (Ok request) message (asks, reads) status fields body cause (inr (inr (missing, code, json, bare, untold))) =
    absurd ((one request place_of_looks asks).found missing)

-- a response whose body is no look-up that was heard
without_fate : (fate other : LookFate) (place : ℕ) (request : HttpRequest) → AsksAt proxy_routes request place
    → ((message : AskedUrls) → IsHeardLook (Ok request) message → ⊥) → (status : Status) (fields : ResponseFields) (body cause : List ℕ)
    → IsProxyResponseAt fate place request status fields body cause → IsProxyResponseAt other place request status fields body cause
without_fate fate other zero request asks none status fields body cause (inl ((message, reads), told, untold), json) = absurd (none message (asks, reads))
without_fate fate other zero request asks none status fields body cause (inr refused, json) = (inr refused, json)
without_fate fate other (suc place) request asks none status fields body cause right =
    absurd (omega (arith, (position-Some (λ (route : Route). takes route request) proxy_routes (suc place) proxy_route asks).0))

pub answered_without_fate : (received : Result HttpRequest RequestFault) → IsAnsweredWithoutLook received
answered_without_fate (Err fault) none fate other status fields body cause is = is
answered_without_fate (Ok request) none fate other status fields body cause (inl (p, asks, right)) =
    inl (p, asks, without_fate fate other p request asks none status fields body cause right)
answered_without_fate (Ok request) none fate other status fields body cause (inr rest) = inr rest

-- ---- which route is asked for

-- a request that no route takes does not ask for that of look-ups
pub not_asked : (request : HttpRequest) (routed : Routed) → AsksForOneThing proxy_routes request → IsRouted proxy_routes request routed
    → ((allow : Allow) × (routed ≡ OtherMethod allow)) ⊎ (routed ≡ NoPath) → (false ≡ true → AsksAt proxy_routes request place_of_looks) × (AsksAt proxy_routes request place_of_looks → false ≡ true)
not_asked request routed one says (inl (allow, is)) = (
  λ h. absurd (cc),
  λ asks. absurd ((one place_of_looks asks).taken allow (subst (IsRouted proxy_routes request) is says)),
)
not_asked request routed one says (inr is) = (
  λ h. absurd (cc),
  λ asks. absurd ((one place_of_looks asks).found (subst (IsRouted proxy_routes request) is says)),
)

-- ---- the steps to a response

-- a fault of a body that was refused is its first one
first_fault : (refusal : MessageFault) (fault : Option MessageFault) → (refusal ≡ no_memory) ⊎ (fault ≡ Some refusal) → refusal ≢ no_memory → (cause : List ℕ)
    → option_map message_cause (Some refusal) ≡ Some cause → option_map message_cause fault ≡ Some cause
first_fault refusal fault (inl none) some cause told = absurd (some none)
first_fault refusal fault (inr is) some cause told = ap (option_map message_cause) is ∙ told

pub look_refused : (fate : LookFate) (asked : List ℕ) (refusal : MessageFault) (result : Result Response OutOfMemory)
    → ((message : AskedUrls) → IsTextOf ReadsLookup asked message → refusal ≡ no_memory) → (refusal ≡ no_memory) ⊎ (look_body_fault asked ≡ Some refusal)
    → IfOk result (λ r. IsLookRefused (Some refusal) r.status r.body r.cause) → IfOk result (λ r. r.fields.media ≡ Json) → IfOk result (λ _. refusal ≢ no_memory)
    → IfOk result (λ r. IsLookResponseBy fate asked r.status r.fields r.body r.cause)
look_refused fate asked refusal (Ok r) only first is json some =
    (inr (λ reads. some (only reads.0 reads.1), (is.0, is.1, first_fault refusal (look_body_fault asked) first some r.cause is.2)), json)
look_refused fate asked refusal (Err refused) only first is json some = tt

pub look_answered : (fate : LookFate) (asked : List ℕ) (message : AskedUrls) (result : Result Response OutOfMemory) → IsTextOf ReadsLookup asked message
    → IfOk result (λ r. IsLookTold fate r.status r.body) → IfOk result (λ r. r.cause ≡ []) → IfOk result (λ r. r.fields.media ≡ Json)
    → IfOk result (λ r. IsLookResponseBy fate asked r.status r.fields r.body r.cause)
look_answered fate asked message (Ok r) reads told untold json = (inl ((message, reads), told, untold), json)
look_answered fate asked message (Err refused) reads told untold json = tt
