-- A response on its way, and that a whole request has the answer that is right for it.
use Rattle.std.proofs.Common.{◌≡◌, ◌≢◌, ◌↔◌, ℕ, Bool, List, [], ◌++◌, length, codes, decimal, Option, Some, None, Result, Ok, Err, IfSome, refl, sym, ap, ◌∙◌, subst}
use Rattle.std.proofs.lemmas.List.{append-nil}
use Rattle.sha2.specs.Sha256.{sha256}
use Rattle.sb_outside.specs.Outside.{next_piece, appended}
use Rattle.http_edge.specs.Requests.{Gives, ReadsAsRequest, RequestOutcome}
use Rattle.http_edge.specs.Responses.{allow_line, digest_text, line, media_text, response_text, status_text}
use Rattle.http_edge.specs.declared.faults.RequestFault.{RequestFault}
use Rattle.http_edge.specs.declared.faults.RequestFault.TheVariants as fault
use Rattle.http_edge.specs.declared.messages.HttpRequest.{HttpRequest}
use Rattle.http_edge.specs.declared.messages.MediaType.{MediaType}
use Rattle.http_edge.specs.declared.messages.ResponseFields.{ResponseFields}
use Rattle.http_edge.specs.declared.messages.Status.{Status}
use Rattle.http_serving.specs.Hearing.{Hears}
use Rattle.http_serving.specs.Law.{HasOneAnswer, IsAnsweredAsRead}
use Rattle.http_serving.specs.Serving.{IsAnswerAfter, HasWritten, Serves, HasAnswer, AnswersAtMost, IsComplete}
use Rattle.http_serving.specs.Steps.{answer_cause, answer_status, answer_text, IsStopAfter, IsSent}
use Rattle.http_serving.specs.Written.{IsRightAnswer, IsTextOfRight}
use Rattle.http_serving.specs.declared.ends.ConnectionEnd.{ConnectionEnd}
use Rattle.http_serving.specs.declared.ends.ConnectionEnd.TheVariants as end
use Rattle.http_serving.specs.declared.responses.Answer.{Answer}
use Rattle.http_serving.specs.declared.responses.Answer.TheVariants.{Made, Written, Shared}
use Rattle.http_serving.proofs.Unavailable.{nothing_of}
use Rattle.http_serving.proofs.Requests.{IsFrontOf, front_of_gives, no_status, same_request}

-- ---- a response on its way

written_of_sent : (Right : HttpRequest → Status → ResponseFields → (body cause : List ℕ) → Type 0) (received : Result HttpRequest RequestFault) (status : Status) (fields : ResponseFields) (body cause : List ℕ) (how : ConnectionEnd)
    → (before after : Option (List ℕ)) → IsAnswerAfter Right received status fields body cause → IsSent status (response_text status fields body) cause how before after → HasWritten Right received how before after
written_of_sent Right received status fields body cause (end.Answered told why) before after answer sent = record {
  fields = fields;
  body = body;
  answer = subst (λ (c : List ℕ). IsAnswerAfter Right received told fields body c) (sym sent.1)
      (subst (λ (s : Status). IsAnswerAfter Right received s fields body cause) (sym sent.0) answer);
  written = subst (λ (s : Status). after ≡ appended before (response_text s fields body)) (sym sent.0) sent.2;
}
written_of_sent Right received status fields body cause end.WriteFault before after answer sent = record {
  status = status;
  fields = fields;
  body = body;
  cause = cause;
  answer = answer;
  written = sent;
}
written_of_sent Right received status fields body cause end.ReadFault before after answer sent = absurd sent
written_of_sent Right received status fields body cause end.OutOfMemory before after answer sent = nothing_of before after sent

-- the text of a right answer is that of a right response
text_right : (Right : Status → ResponseFields → (body cause : List ℕ) → Type 0) (answer : Answer) → IsRightAnswer Right answer
    → IsTextOfRight Right (answer_status answer) (answer_cause answer) (answer_text answer)
text_right Right (Made response) right = record { fields = response.fields; body = response.body; right = right; whole = refl }
text_right Right (Written written) right = right
text_right Right (Shared shared) right = right

-- a fault of reading has no answer
none_of_fault : (Right : HttpRequest → Status → ResponseFields → (body cause : List ℕ) → Type 0) (received : Result HttpRequest RequestFault) (status : Status) (fields : ResponseFields) (body cause : List ℕ)
    → IsAnswerAfter Right received status fields body cause → received ≢ Err fault.ReadFault
none_of_fault Right received status fields body cause right is =
    let none = subst (λ (r : Result HttpRequest RequestFault). IsAnswerAfter Right r status fields body cause) is right in
    let e : None ≡ Some status = none.0 in absurd (cc)

pub no_fault : (Right : HttpRequest → Status → ResponseFields → (body cause : List ℕ) → Type 0) (received : Result HttpRequest RequestFault) (answer : Answer)
    → IsRightAnswer (IsAnswerAfter Right received) answer → received ≢ Err fault.ReadFault
no_fault Right received answer right =
    let text = text_right (IsAnswerAfter Right received) answer right in none_of_fault Right received (answer_status answer) text.fields text.body (answer_cause answer) text.right

pub served : (Right : HttpRequest → Status → ResponseFields → (body cause : List ℕ) → Type 0) (received : Result HttpRequest RequestFault) (answer : Answer) (how : ConnectionEnd)
    → (left later last : Option (List (List ℕ))) (before between after : Option (List ℕ))
    → Hears received left later
    → last ≡ later → between ≡ before → IsRightAnswer (IsAnswerAfter Right received) answer → IsSent (answer_status answer) (answer_text answer) (answer_cause answer) how between after
    → Serves Right how left last before after
served Right received answer how left later last before between after heard same-left same-contents response sent =
    let text = text_right (IsAnswerAfter Right received) answer response in record {
      bytes = heard.bytes;
      ended = heard.ended;
      received = received;
      gives = subst (Gives heard.bytes heard.ended left) (sym same-left) heard.gives;
      outcome = heard.outcome;
      prompt = heard.prompt;
      written = written_of_sent Right received (answer_status answer) text.fields text.body (answer_cause answer) how before after text.right
          (subst (λ (t : List ℕ). IsSent (answer_status answer) t (answer_cause answer) how before after) text.whole
          (subst (λ (held : Option (List ℕ)). IsSent (answer_status answer) (answer_text answer) (answer_cause answer) how held after) same-contents sent));
    }

pub stopped : (Right : HttpRequest → Status → ResponseFields → (body cause : List ℕ) → Type 0) (received : Result HttpRequest RequestFault) (how : ConnectionEnd)
    → (left later : Option (List (List ℕ))) (before after : Option (List ℕ))
    → Hears received left later
    → after ≡ before → IsStopAfter received how → Serves Right how left later before after
stopped Right received (end.Answered status cause) left later before after heard same stop = absurd stop
stopped Right received end.WriteFault left later before after heard same stop = absurd stop
stopped Right received end.ReadFault left later before after heard same stop =
    record { bytes = heard.bytes; ended = heard.ended; received = received; gives = heard.gives; outcome = heard.outcome; prompt = heard.prompt; written = (stop, same) }
stopped Right received end.OutOfMemory left later before after heard same stop =
    record { bytes = heard.bytes; ended = heard.ended; received = received; gives = heard.gives; outcome = heard.outcome; prompt = heard.prompt; written = nothing_of before after same }

-- ---- a fault of reading, and nothing else, ends so

pub fault_of_sent : (Right : HttpRequest → Status → ResponseFields → (body cause : List ℕ) → Type 0) (received : Result HttpRequest RequestFault) (answer : Answer) (how : ConnectionEnd) (status : Status) (text cause : List ℕ) (before after : Option (List ℕ))
    → IsRightAnswer (IsAnswerAfter Right received) answer → IsSent status text cause how before after → (how ≡ end.ReadFault) ↔ (received ≡ Err fault.ReadFault)
fault_of_sent Right received answer (end.Answered told why) status text cause before after right sent = (λ e. absurd (cc), λ e. absurd (no_fault Right received answer right e))
fault_of_sent Right received answer end.WriteFault status text cause before after right sent = (λ e. absurd (cc), λ e. absurd (no_fault Right received answer right e))
fault_of_sent Right received answer end.OutOfMemory status text cause before after right sent = (λ e. absurd (cc), λ e. absurd (no_fault Right received answer right e))
fault_of_sent Right received answer end.ReadFault status text cause before after right sent = absurd sent

pub fault_of_stop : (received : Result HttpRequest RequestFault) (how : ConnectionEnd) → IsStopAfter received how → (how ≡ end.ReadFault) ↔ (received ≡ Err fault.ReadFault)
fault_of_stop received (end.Answered status cause) stop = absurd stop
fault_of_stop received end.WriteFault stop = absurd stop
fault_of_stop received end.ReadFault stop = (λ e. stop, λ e. refl)
fault_of_stop received end.OutOfMemory stop = (λ e. absurd (cc), λ e. absurd (stop e))

-- ---- a whole request has one answer

-- the first bytes of a whole request, or more, are answered as the request is
response_after : (Right : HttpRequest → Status → ResponseFields → (body cause : List ℕ) → Type 0) (bytes whole : List ℕ) (ended : Bool) (received : Result HttpRequest RequestFault) (status : Status) (fields : ResponseFields) (body cause : List ℕ) (request : HttpRequest)
    → ReadsAsRequest whole request → IsFrontOf bytes whole ended → RequestOutcome bytes ended received → IsAnswerAfter Right received status fields body cause
    → Right request status fields body cause
response_after Right bytes whole ended (Ok heard) status fields body cause request reads front read response =
    subst (λ (r : HttpRequest). Right r status fields body cause) (same_request bytes whole ended heard request read reads front) response
response_after Right bytes whole ended (Err refusal) status fields body cause request reads front read response =
    absurd (no_status bytes whole ended request refusal status reads front read response.0)

pub response_of_whole : (Right : HttpRequest → Status → ResponseFields → (body cause : List ℕ) → Type 0) (bytes : List ℕ) (request : HttpRequest) → IsAnsweredAsRead Right bytes request
response_of_whole Right bytes request reads ended received status fields body cause read response =
    response_after Right bytes bytes ended received status fields body cause request reads
    (record { lost = []; parts = append-nil bytes; all = λ _. refl }) read response

-- a response, by its media type and the text of its line of the allowed method
text_of : Status → MediaType → List ℕ → List ℕ → List ℕ
text_of status media allowed body =
    (line (codes "HTTP/1.1 " ++ status_text status)
    ++ line (codes "Content-Type: " ++ media_text media)
    ++ line (codes "Content-Length: " ++ decimal (length body))
    ++ line (codes "Content-Digest: " ++ digest_text (sha256 body))
    ++ allowed
    ++ line (codes "Connection: close")
    ++ line []) ++ body

same_text : (first second : Status) (fields other : ResponseFields) (a b : List ℕ) → first ≡ second → allow_line first fields.allow ≡ allow_line second other.allow
    → fields.media ≡ other.media → a ≡ b → response_text first fields a ≡ response_text second other b
unfolding text_of line
same_text first second fields other a b status allowed media body =
    let one : response_text first fields a ≡ text_of first fields.media (allow_line first fields.allow) a = refl in
    let two : response_text second other b ≡ text_of second other.media (allow_line second other.allow) b = refl in
    one ∙ ap (λ (s : Status). text_of s fields.media (allow_line first fields.allow) a) status
    ∙ ap (λ (m : MediaType). text_of second m (allow_line first fields.allow) a) media
    ∙ ap (λ (l : List ℕ). text_of second other.media l a) allowed
    ∙ ap (text_of second other.media (allow_line second other.allow)) body ∙ sym two

at_most : (Right : HttpRequest → Status → ResponseFields → (body cause : List ℕ) → Type 0) (bytes whole : List ℕ) (ended : Bool) (received : Result HttpRequest RequestFault) (how : ConnectionEnd) (before after : Option (List ℕ))
    → (status : Status) (fields : ResponseFields) (body cause : List ℕ) → ((request : HttpRequest) → HasOneAnswer Right request)
    → HasAnswer Right whole status fields body cause → IsFrontOf bytes whole ended → RequestOutcome bytes ended received → HasWritten Right received how before after
    → AnswersAtMost status fields body cause how before after
at_most Right bytes whole ended received (end.Answered told why) before after status fields body cause one good front read is =
    let response = response_after Right bytes whole ended received told is.fields is.body why good.request good.reads front read is.answer in
    let right = one good.request told status is.fields fields is.body body why cause response good.right in
    (right.0, right.4, is.written ∙ ap (appended before) (same_text told status is.fields fields is.body body right.0 right.1 right.2 right.3))
at_most Right bytes whole ended received end.WriteFault before after status fields body cause one good front read is = tt
at_most Right bytes whole ended received end.ReadFault before after status fields body cause one good front read is = tt
at_most Right bytes whole ended received end.OutOfMemory before after status fields body cause one good front read is = tt

pub complete_of : (Right : HttpRequest → Status → ResponseFields → (body cause : List ℕ) → Type 0) (how : ConnectionEnd) (left later : Option (List (List ℕ))) (before after : Option (List ℕ))
    → ((request : HttpRequest) → HasOneAnswer Right request) → Serves Right how left later before after
    → IfSome left (λ pieces. IsComplete Right pieces how before after)
complete_of Right how None later before after one serves = tt
complete_of Right how (Some pieces) later before after one serves = λ status fields body cause good.
    at_most Right serves.bytes (next_piece pieces) serves.ended serves.received how before after status fields body cause one good
    (front_of_gives serves.bytes serves.ended pieces later serves.gives) serves.outcome serves.written

-- ---- a stop is no answer

no_answer : (received : Result HttpRequest RequestFault) (how : ConnectionEnd) (before after : Option (List ℕ)) (status : Status) (fields : ResponseFields) (body cause : List ℕ)
    → IsStopAfter received how → AnswersAtMost status fields body cause how before after
no_answer received (end.Answered told why) before after status fields body cause stop = absurd stop
no_answer received end.WriteFault before after status fields body cause stop = tt
no_answer received end.ReadFault before after status fields body cause stop = tt
no_answer received end.OutOfMemory before after status fields body cause stop = tt

pub complete_of_stop : (Right : HttpRequest → Status → ResponseFields → (body cause : List ℕ) → Type 0) (received : Result HttpRequest RequestFault) (how : ConnectionEnd) (left : Option (List (List ℕ))) (before after : Option (List ℕ))
    → IsStopAfter received how → IfSome left (λ pieces. IsComplete Right pieces how before after)
complete_of_stop Right received how None before after stop = tt
complete_of_stop Right received how (Some pieces) before after stop = λ status fields body cause good. no_answer received how before after status fields body cause stop
