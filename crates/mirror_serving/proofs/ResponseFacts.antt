-- One response is right for a request, by what its body reads as.
use Rattle.std.proofs.lemmas.List.Quantifiers.{position-Some}
use Rattle.std.proofs.Common.{zero, suc, arith, ◌≡◌, ◌≢◌, ◌⊎◌, ℕ, true, false, List, [], Option, Some, Result, Ok, Err, IfOk, refl, sym, ap, ◌∙◌, subst, inl, inr}
use Rattle.std.specs.Prelude.{option_map}
use Rattle.serde_json.specs.Data.{Data}
use Rattle.sb_model.specs.declared.memory.OutOfMemory.{OutOfMemory}
use Rattle.sb_outside.specs.declared.links.Kind.{Kind}
use Rattle.sb_outside.specs.declared.links.Kind.TheVariants.{Update, Find}
use Rattle.sb_json.specs.Printed.{message_cause_text as message_cause}
use Rattle.sb_json.specs.declared.faults.MessageFault.{MessageFault}
use Rattle.sb_json.specs.declared.faults.MessageFault.TheVariants.{OutOfMemory as no_memory}
use Rattle.http_edge.specs.Responses.{allow_line}
use Rattle.http_edge.specs.declared.faults.RequestFault.{RequestFault}
use Rattle.http_edge.specs.declared.messages.Allow.{Allow}
use Rattle.http_edge.specs.declared.messages.HttpRequest.{HttpRequest}
use Rattle.http_edge.specs.declared.messages.MediaType.TheVariants.{Json}
use Rattle.http_edge.specs.declared.messages.ResponseFields.{ResponseFields}
use Rattle.http_edge.specs.declared.messages.Status.{Status}
use Rattle.http_edge.specs.declared.messages.Status.TheVariants.{Success, BadRequest, BadGateway, ServiceUnavailable}
use Rattle.http_serving.specs.Law.{AsksForOneThing, HasOneAnswer}
use Rattle.http_serving.specs.Routes.{takes, AsksAt, IsRouted, Route}
use Rattle.http_serving.specs.declared.routes.Routed.{Routed}
use Rattle.http_serving.specs.declared.routes.Routed.TheVariants.{NoPath, OtherMethod}
use Rattle.http_serving.specs.declared.responses.Response.{Response}
use Rattle.update_messages.specs.Messages.{Request}
use Rattle.update_messages.specs.Reading.{ReadsRequest, IsTextOf}
use Rattle.hash_messages.specs.Messages.{AskedHashes}
use Rattle.hash_messages.specs.Reading.{ReadsFindRequest}
use Rattle.hash_messages.specs.Writing.{spelling_of_find_response}
use Rattle.mirror_places.specs.Places.{Places}
use Rattle.mirror_serving.specs.HeardFind.{place_of_finds, IsHeardFind}
use Rattle.mirror_serving.specs.Response.{body_fault_of_kind, fetch_body_fault, find_body_fault, mirror_kind_at, mirror_route, mirror_routes, mirror_text, IsBodyOfKind, IsFateTold, IsFetchResponse, IsFindResponseBy, IsMirrorResponseAt, IsMirrorResponseFor, IsBodyRefused}
use Rattle.mirror_serving.specs.ResponseLaws.{IsAnsweredByFate, IsAnsweredWithoutFate, RefusesWhateverFate}
use Rattle.mirror_serving.specs.declared.fate.FindFate.{FindFate}
use Rattle.mirror_serving.specs.declared.fate.FindFate.TheVariants.{NotSent, Failed, Brought}

-- ---- one message

-- a value reads as one request for updates
abbrev pub FetchesReadOneWay : Type 0
FetchesReadOneWay = (value : Data) (a b : Request) → ReadsRequest value a → ReadsRequest value b → a ≡ b

one_message : FetchesReadOneWay → (text : List ℕ) (a b : Request) → IsTextOf ReadsRequest text a → IsTextOf ReadsRequest text b → a ≡ b
one_message one text a b (v, says, reads) (w, tells, reads') =
    let same : v ≡ w = cc in
    one w a b (subst (λ (x : Data). ReadsRequest x a) same reads) reads'

-- ---- one response

-- two statuses, the methods that they allow, and two bodies are the same
abbrev AreSame : (first second : Status) (fields other : ResponseFields) (a b : List ℕ) → Type 0
AreSame first second fields other a b = (first ≡ second) × (allow_line first fields.allow ≡ allow_line second other.allow) × (a ≡ b)

-- they are if both are these
both_are : (status : Status) (body : List ℕ) → ((allow : Allow) → allow_line status allow ≡ []) → (first second : Status) (fields other : ResponseFields) (a b : List ℕ)
    → first ≡ status → second ≡ status → a ≡ body → b ≡ body → AreSame first second fields other a b
both_are status body none first second fields other a b is is' tells tells' = (
  is ∙ sym is',
  ap (λ (s : Status). allow_line s fields.allow) is ∙ none fields.allow ∙ sym (ap (λ (s : Status). allow_line s other.allow) is' ∙ none other.allow),
  tells ∙ sym tells',
)

told_once : (fate : FindFate) (first second : Status) (fields other : ResponseFields) (a b : List ℕ) → IsFateTold fate first a → IsFateTold fate second b → AreSame first second fields other a b
told_once NotSent first second fields other a b is is' = both_are ServiceUnavailable [] (λ allow. refl) first second fields other a b is.0 is'.0 is.1 is'.1
told_once Failed first second fields other a b is is' = both_are BadGateway [] (λ allow. refl) first second fields other a b is.0 is'.0 is.1 is'.1
told_once (Brought message) first second fields other a b is is' =
    both_are Success (spelling_of_find_response message) (λ allow. refl) first second fields other a b is.0 is'.0 is.1 is'.1

refused_once : (fault : Option MessageFault) (first second : Status) (fields other : ResponseFields) (a b why because : List ℕ)
    → IsBodyRefused fault first a why → IsBodyRefused fault second b because → AreSame first second fields other a b × (why ≡ because)
refused_once fault first second fields other a b why because is is' =
    let told : Some why ≡ Some because = sym is.2 ∙ is'.2 in
    (both_are BadRequest [] (λ allow. refl) first second fields other a b is.0 is'.0 is.1 is'.1, cc)

-- that of all parts
abbrev IsOne : (first second : Status) (fields other : ResponseFields) (a b why because : List ℕ) → Type 0
IsOne first second fields other a b why because =
    (first ≡ second) × (allow_line first fields.allow ≡ allow_line second other.allow) × (fields.media ≡ other.media) × (a ≡ b) × (why ≡ because)

one_of : (first second : Status) (fields other : ResponseFields) (a b why because : List ℕ) → AreSame first second fields other a b → fields.media ≡ Json → other.media ≡ Json → why ≡ because
    → IsOne first second fields other a b why because
one_of first second fields other a b why because same json json' told = (same.0, same.1, json ∙ sym json', same.2, told)

one_fetch : FetchesReadOneWay → (mirror : Places) (wait : ℕ) (asked : List ℕ) (first second : Status) (fields other : ResponseFields) (a b why because : List ℕ)
    → IsFetchResponse mirror wait asked first fields a why → IsFetchResponse mirror wait asked second other b because → IsOne first second fields other a b why because
one_fetch one mirror wait asked first second fields other a b why because (inl ((m, reads, is), success, untold), json) (inl ((n, reads', is'), success', untold'), json') =
    one_of first second fields other a b why because
    (both_are Success (mirror_text mirror wait n) (λ allow. refl) first second fields other a b success success'
    (is ∙ ap (mirror_text mirror wait) (one_message one asked m n reads reads')) is')
    json json' (untold ∙ sym untold')
one_fetch one mirror wait asked first second fields other a b why because (inl ((m, reads, is), success, untold), json) (inr (none, refused), json') = absurd (none (m, reads))
one_fetch one mirror wait asked first second fields other a b why because (inr (none, refused), json) (inl ((n, reads, is), success, untold), json') = absurd (none (n, reads))
one_fetch one mirror wait asked first second fields other a b why because (inr (none, refused), json) (inr (none', refused'), json') =
    let same = refused_once (fetch_body_fault asked) first second fields other a b why because refused refused' in
    one_of first second fields other a b why because same.0 json json' same.1

one_find : (fate : FindFate) (asked : List ℕ) (first second : Status) (fields other : ResponseFields) (a b why because : List ℕ)
    → IsFindResponseBy fate asked first fields a why → IsFindResponseBy fate asked second other b because → IsOne first second fields other a b why because
one_find fate asked first second fields other a b why because (inl (reads, told, untold), json) (inl (reads', told', untold'), json') =
    one_of first second fields other a b why because (told_once fate first second fields other a b told told') json json' (untold ∙ sym untold')
one_find fate asked first second fields other a b why because (inl (reads, told, untold), json) (inr (none, refused), json') = absurd (none reads)
one_find fate asked first second fields other a b why because (inr (none, refused), json) (inl (reads, told, untold), json') = absurd (none reads)
one_find fate asked first second fields other a b why because (inr (none, refused), json) (inr (none', refused'), json') =
    let same = refused_once (find_body_fault asked) first second fields other a b why because refused refused' in
    one_of first second fields other a b why because same.0 json json' same.1

one_for : FetchesReadOneWay → (mirror : Places) (wait : ℕ) (fate : FindFate) (kind : Kind) (request : HttpRequest) → HasOneAnswer (IsMirrorResponseFor mirror wait fate kind) request
one_for one mirror wait fate Update request first second fields other a b why because is is' = one_fetch one mirror wait request.body first second fields other a b why because is is'
one_for one mirror wait fate Find request first second fields other a b why because is is' = one_find fate request.body first second fields other a b why because is is'

pub one_response : FetchesReadOneWay → (mirror : Places) (wait : ℕ) (fate : FindFate) (place : ℕ) (request : HttpRequest) → HasOneAnswer (IsMirrorResponseAt mirror wait fate place) request
one_response one mirror wait fate place request = one_for one mirror wait fate (mirror_kind_at place) request

-- ---- a body that is no message

refused_for : (mirror : Places) (wait : ℕ) (fate : FindFate) (kind : Kind) (request : HttpRequest) → (IsBodyOfKind kind request.body → ⊥)
    → (status : Status) (fields : ResponseFields) (body cause : List ℕ) → IsMirrorResponseFor mirror wait fate kind request status fields body cause
    → IsBodyRefused (body_fault_of_kind kind request.body) status body cause
refused_for mirror wait fate Update request none status fields body cause (inl ((m, reads, is), success, untold), json) = absurd (none (m, reads))
refused_for mirror wait fate Update request none status fields body cause (inr (none', refused), json) = refused
refused_for mirror wait fate Find request none status fields body cause (inl (reads, told, untold), json) = absurd (none reads)
refused_for mirror wait fate Find request none status fields body cause (inr (none', refused), json) = refused

pub refused_whatever : ((request : HttpRequest) → AsksForOneThing mirror_routes request) → (mirror : Places) (wait : ℕ) (fate : FindFate) (request : HttpRequest)
    → RefusesWhateverFate mirror wait fate request
refused_whatever one mirror wait fate request place asks none status fields body cause (inl (p, asks', right)) =
    refused_for mirror wait fate (mirror_kind_at place) request none status fields body cause
    (subst (λ (k : ℕ). IsMirrorResponseAt mirror wait fate k request status fields body cause) ((one request place asks).only p asks') right)
refused_whatever one mirror wait fate request place asks none status fields body cause (inr (inl (wrong, code, json, bare, untold))) =
    absurd ((one request place asks).taken fields.allow wrong)
refused_whatever one mirror wait fate request place asks none status fields body cause (inr (inr (missing, code, json, bare, untold))) =
    absurd ((one request place asks).found missing)

-- ---- finds that are put off

told_by_fate : (mirror : Places) (wait : ℕ) (fate : FindFate) (request : HttpRequest) (message : AskedHashes) → IsTextOf ReadsFindRequest request.body message
    → (status : Status) (fields : ResponseFields) (body cause : List ℕ) → IsMirrorResponseAt mirror wait fate place_of_finds request status fields body cause
    → IsFateTold fate status body × (cause ≡ [])
told_by_fate mirror wait fate request message reads status fields body cause (inl (is, told, untold), json) = (told, untold)
told_by_fate mirror wait fate request message reads status fields body cause (inr (none, refused), json) = absurd (none (message, reads))

pub answered_by_fate : ((request : HttpRequest) → AsksForOneThing mirror_routes request) → (mirror : Places) (wait : ℕ) (fate : FindFate) (received : Result HttpRequest RequestFault)
    → IsAnsweredByFate mirror wait fate received
answered_by_fate one mirror wait fate (Err fault) message heard status fields body cause is = absurd heard
answered_by_fate one mirror wait fate (Ok request) message (asks, reads) status fields body cause (inl (p, asks', right)) =
    told_by_fate mirror wait fate request message reads status fields body cause
    (subst (λ (k : ℕ). IsMirrorResponseAt mirror wait fate k request status fields body cause) ((one request place_of_finds asks).only p asks') right)
answered_by_fate one mirror wait fate (Ok request) message (asks, reads) status fields body cause (inr (inl (wrong, code, json, bare, untold))) =
    absurd ((one request place_of_finds asks).taken fields.allow wrong)
answered_by_fate one mirror wait fate (Ok request) message (asks, reads) status fields body cause (inr (inr (missing, code, json, bare, untold))) =
    absurd ((one request place_of_finds asks).found missing)

-- a response whose body is no find that was heard
without_fate : (mirror : Places) (wait : ℕ) (fate other : FindFate) (place : ℕ) (request : HttpRequest) → AsksAt mirror_routes request place
    → ((message : AskedHashes) → IsHeardFind (Ok request) message → ⊥) → (status : Status) (fields : ResponseFields) (body cause : List ℕ)
    → IsMirrorResponseAt mirror wait fate place request status fields body cause → IsMirrorResponseAt mirror wait other place request status fields body cause
without_fate mirror wait fate other zero request asks none status fields body cause right = right
without_fate mirror wait fate other (suc zero) request asks none status fields body cause (inl ((message, reads), told, untold), json) = absurd (none message (asks, reads))
without_fate mirror wait fate other (suc zero) request asks none status fields body cause (inr refused, json) = (inr refused, json)
without_fate mirror wait fate other (suc (suc place)) request asks none status fields body cause right =
    absurd (omega (arith, (position-Some (λ (route : Route). takes route request) mirror_routes (suc (suc place)) (mirror_route Find) asks).0))

pub answered_without_fate : (mirror : Places) (wait : ℕ) (received : Result HttpRequest RequestFault) → IsAnsweredWithoutFate mirror wait received
answered_without_fate mirror wait (Err fault) none fate other status fields body cause is = is
answered_without_fate mirror wait (Ok request) none fate other status fields body cause (inl (p, asks, right)) =
    inl (p, asks, without_fate mirror wait fate other p request asks none status fields body cause right)
answered_without_fate mirror wait (Ok request) none fate other status fields body cause (inr rest) = inr rest

-- ---- which route is asked for

-- a request that no route takes does not ask for that of finds
pub not_asked : (request : HttpRequest) (routed : Routed) → AsksForOneThing mirror_routes request → IsRouted mirror_routes request routed
    → ((allow : Allow) × (routed ≡ OtherMethod allow)) ⊎ (routed ≡ NoPath) → (false ≡ true → AsksAt mirror_routes request place_of_finds) × (AsksAt mirror_routes request place_of_finds → false ≡ true)
not_asked request routed one says (inl (allow, is)) = (
  λ h. absurd (cc),
  λ asks. absurd ((one place_of_finds asks).taken allow (subst (IsRouted mirror_routes request) is says)),
)
not_asked request routed one says (inr is) = (
  λ h. absurd (cc),
  λ asks. absurd ((one place_of_finds asks).found (subst (IsRouted mirror_routes request) is says)),
)

-- ---- the steps to a response

-- a fault of a body that was refused is its first one
first_fault : (refusal : MessageFault) (fault : Option MessageFault) → (refusal ≡ no_memory) ⊎ (fault ≡ Some refusal) → refusal ≢ no_memory → (cause : List ℕ)
    → option_map message_cause (Some refusal) ≡ Some cause → option_map message_cause fault ≡ Some cause
first_fault refusal fault (inl none) some cause told = absurd (some none)
first_fault refusal fault (inr is) some cause told = ap (option_map message_cause) is ∙ told

pub fetch_answered : (mirror : Places) (wait : ℕ) (asked : List ℕ) (message : Request) (r : Response) → IsTextOf ReadsRequest asked message → r.status ≡ Success
    → r.body ≡ mirror_text mirror wait message → r.fields.media ≡ Json → r.cause ≡ [] → IsFetchResponse mirror wait asked r.status r.fields r.body r.cause
fetch_answered mirror wait asked message r reads success is json untold = (inl ((message, reads, is), success, untold), json)

pub fetch_refused : (mirror : Places) (wait : ℕ) (asked : List ℕ) (refusal : MessageFault) (r : Response)
    → ((message : Request) → IsTextOf ReadsRequest asked message → refusal ≡ no_memory) → (refusal ≡ no_memory) ⊎ (fetch_body_fault asked ≡ Some refusal)
    → IsBodyRefused (Some refusal) r.status r.body r.cause → r.fields.media ≡ Json → refusal ≢ no_memory → IsFetchResponse mirror wait asked r.status r.fields r.body r.cause
fetch_refused mirror wait asked refusal r only first is json some =
    (inr (λ reads. some (only reads.0 reads.1), (is.0, is.1, first_fault refusal (fetch_body_fault asked) first some r.cause is.2)), json)

pub find_refused : (fate : FindFate) (asked : List ℕ) (refusal : MessageFault) (result : Result Response OutOfMemory)
    → ((message : AskedHashes) → IsTextOf ReadsFindRequest asked message → refusal ≡ no_memory) → (refusal ≡ no_memory) ⊎ (find_body_fault asked ≡ Some refusal)
    → IfOk result (λ r. IsBodyRefused (Some refusal) r.status r.body r.cause) → IfOk result (λ r. r.fields.media ≡ Json) → IfOk result (λ _. refusal ≢ no_memory)
    → IfOk result (λ r. IsFindResponseBy fate asked r.status r.fields r.body r.cause)
find_refused fate asked refusal (Ok r) only first is json some =
    (inr (λ reads. some (only reads.0 reads.1), (is.0, is.1, first_fault refusal (find_body_fault asked) first some r.cause is.2)), json)
find_refused fate asked refusal (Err refused) only first is json some = tt

pub find_answered : (fate : FindFate) (asked : List ℕ) (message : AskedHashes) (result : Result Response OutOfMemory) → IsTextOf ReadsFindRequest asked message
    → IfOk result (λ r. IsFateTold fate r.status r.body) → IfOk result (λ r. r.cause ≡ []) → IfOk result (λ r. r.fields.media ≡ Json)
    → IfOk result (λ r. IsFindResponseBy fate asked r.status r.fields r.body r.cause)
find_answered fate asked message (Ok r) reads told untold json = (inl ((message, reads), told, untold), json)
find_answered fate asked message (Err refused) reads told untold json = tt
