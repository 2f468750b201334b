-- What a connection is answered: one response to the request that it gives, or a 503 if memory is refused. What a right answer to
-- a request is, is a parameter: a relation `Right` of a request, a status, the fields that the server chooses, a body, and a cause. It may
-- be any relation, so also one of what a session of the server's own brought. The cause is a text that the server tells whoever runs
-- it, empty for none, and no part of the response.
use Rattle.std.specs.Prelude.{◌≡◌, ◌≢◌, ◌↔◌, ◌⊎◌, ℕ, Bool, List, [], take, Option, Some, None, Result, Ok, Err, ⊤, IsTrue}
use Rattle.sb_outside.specs.Outside.{Rose, appended, next_piece}
use Rattle.sb_outside.specs.Writing.{HasFront}
use Rattle.sb_outside.specs.declared.doors.Connection.{Connection}
use Rattle.http_edge.specs.Requests.{Gives, ReadsAsRequest, ReadsToRequest, RequestOutcome}
use Rattle.http_edge.specs.Responses.{response_text}
use Rattle.http_edge.specs.declared.faults.RequestFault.{RequestFault}
use Rattle.http_edge.specs.declared.faults.RequestFault.TheVariants as fault
use Rattle.http_edge.specs.declared.messages.Allow.TheVariants.{Post}
use Rattle.http_edge.specs.declared.messages.HttpRequest.{HttpRequest}
use Rattle.http_edge.specs.declared.messages.MediaType.TheVariants.{Json}
use Rattle.http_edge.specs.declared.messages.ResponseFields.{ResponseFields}
use Rattle.http_edge.specs.declared.messages.Status.{Status}
use Rattle.http_edge.specs.declared.messages.Status.TheVariants.{BadRequest, LengthRequired, ContentTooLarge, FieldsTooLarge, ServiceUnavailable}
use Rattle.http_serving.specs.declared.ends.ConnectionEnd.{ConnectionEnd}
use Rattle.http_serving.specs.declared.ends.ConnectionEnd.TheVariants as end

-- ---- what received bytes are answered

-- The status of bytes that are no request (RFC 9110, section 15.5; RFC 6585, section 5). A fault of reading and want of
-- memory have none.
abbrev pub refusal_status : RequestFault → Option Status
refusal_status fault.ReadFault = None
refusal_status fault.Head = Some BadRequest
refusal_status fault.HeadLimit = Some FieldsTooLarge
refusal_status fault.NoLength = Some LengthRequired
refusal_status (fault.BodyLimit length) = Some ContentTooLarge
refusal_status fault.Cut = Some BadRequest
refusal_status fault.OutOfMemory = None

-- A right answer to what was received: to a request, or to bytes that are none. The latter has no body, names JSON as its type, and no
-- cause is told of it.
abbrev pub IsAnswerAfter : (HttpRequest → Status → ResponseFields → (body cause : List ℕ) → Type 0) → Result HttpRequest RequestFault → Status → ResponseFields
    → (body cause : List ℕ) → Type 0
IsAnswerAfter Right (Ok request) status fields body cause = Right request status fields body cause
IsAnswerAfter Right (Err refusal) status fields body cause = (refusal_status refusal ≡ Some status) × (fields.media ≡ Json) × (body ≡ []) × (cause ≡ [])

-- ---- what is written

-- A right response was written, and this is its cause.
pub record IsAnswered (Right : HttpRequest → Status → ResponseFields → (body cause : List ℕ) → Type 0) (received : Result HttpRequest RequestFault) (status : Status)
    (cause : List ℕ) (before after : Option (List ℕ)) : Type 0 where
  pub fields : ResponseFields
  pub body : List ℕ
  pub answer : IsAnswerAfter Right received status fields body cause
  pub written : after ≡ appended before (response_text status fields body)

-- A front of a right response was written, and not the whole.
pub record IsPartlyAnswered (Right : HttpRequest → Status → ResponseFields → (body cause : List ℕ) → Type 0) (received : Result HttpRequest RequestFault)
    (before after : Option (List ℕ)) : Type 0 where
  pub status : Status
  pub fields : ResponseFields
  pub body : List ℕ
  pub cause : List ℕ
  pub answer : IsAnswerAfter Right received status fields body cause
  pub written : HasFront before after (response_text status fields body)

-- the text of the response to a request for which memory was refused (RFC 9110, section 15.6.4): it has no body
unfoldable pub unavailable_text : List ℕ
unavailable_text = response_text ServiceUnavailable (record { allow = Post; media = Json }) []

-- A front of that response was written: the whole, a part, or nothing.
pub record IsUnavailable (before after : Option (List ℕ)) : Type 0 where
  pub count : ℕ
  pub written : after ≡ appended before (take count unavailable_text)

-- A text was written as a whole and no fault was counted, or a fault was counted.
abbrev pub IsWholeOrFault : List ℕ → (before after : Option (List ℕ)) → (faults faults' : ℕ) → Type 0
IsWholeOrFault text before after faults faults' =
    ((after ≡ appended before text) × (faults' ≡ faults)) ⊎ Rose faults faults'

-- what was written, by how the connection ended
abbrev pub HasWritten : (HttpRequest → Status → ResponseFields → (body cause : List ℕ) → Type 0) → Result HttpRequest RequestFault → ConnectionEnd
    → (before after : Option (List ℕ)) → Type 0
HasWritten Right received (end.Answered status cause) before after = IsAnswered Right received status cause before after
HasWritten Right received end.WriteFault before after = IsPartlyAnswered Right received before after
HasWritten Right received end.ReadFault before after = (received ≡ Err fault.ReadFault) × (after ≡ before)
HasWritten Right received end.OutOfMemory before after = IsUnavailable before after

-- A connection was served: the bytes that it gave, with its end or without, what these come to, and what was written of the
-- answer. No more was read than decides what they come to.
pub record Serves (Right : HttpRequest → Status → ResponseFields → (body cause : List ℕ) → Type 0) (how : ConnectionEnd) (left left' : Option (List (List ℕ)))
    (before after : Option (List ℕ)) : Type 0 where
  pub bytes : List ℕ
  pub ended : Bool
  pub received : Result HttpRequest RequestFault
  pub gives : Gives bytes ended left left'
  pub outcome : RequestOutcome bytes ended received
  pub prompt : ReadsToRequest bytes ended received
  pub written : HasWritten Right received how before after

-- ---- what has to be answered

-- The bytes begin with a whole request, and this is a right answer to it.
pub record HasAnswer (Right : HttpRequest → Status → ResponseFields → (body cause : List ℕ) → Type 0) (bytes : List ℕ) (status : Status) (fields : ResponseFields)
    (body cause : List ℕ) : Type 0 where
  pub request : HttpRequest
  pub reads : ReadsAsRequest bytes request
  pub right : Right request status fields body cause

-- Where the connection was answered, this response was written and this cause is told. It is not answered where a read or a
-- write failed, or memory was refused.
abbrev pub AnswersAtMost : Status → ResponseFields → (body cause : List ℕ) → ConnectionEnd → (before after : Option (List ℕ)) → Type 0
AnswersAtMost status fields body cause (end.Answered told why) before after =
    (told ≡ status) × (why ≡ cause) × (after ≡ appended before (response_text status fields body))
AnswersAtMost status fields body cause how before after = ⊤

-- Where a whole request was to come, with a right answer, the connection was answered so or not at all.
abbrev pub IsComplete : (HttpRequest → Status → ResponseFields → (body cause : List ℕ) → Type 0) → List (List ℕ) → ConnectionEnd → (before after : Option (List ℕ)) → Type 0
IsComplete Right pieces how before after =
    (status : Status) (fields : ResponseFields) (body cause : List ℕ) → HasAnswer Right (next_piece pieces) status fields body cause
    → AnswersAtMost status fields body cause how before after

-- ---- what a door's log says of it

-- A connection that had these pieces to give was served, by its entry in the door's log: what was written to it is right for
-- the bytes that it gave, and the entry says where its end was read. A whole request that it had to give was answered, where no
-- fault was counted and memory was not refused. If memory was refused and no write failed, the whole 503 was written.
pub record IsServed (Right : HttpRequest → Status → ResponseFields → (body cause : List ℕ) → Type 0) (how : ConnectionEnd) (pieces : List (List ℕ)) (entry : Connection) : Type 0 where
  pub rest : List (List ℕ)
  pub serves : Serves Right how (Some pieces) (Some rest) (Some []) (Some entry.written)
  pub given : entry.given ≡ serves.bytes
  pub over : IsTrue serves.ended → IsTrue entry.ended
  pub complete : IsComplete Right pieces how (Some []) (Some entry.written)
  pub read_fault : IsTrue entry.read_fault ↔ (how ≡ end.ReadFault)
  pub write_fault : how ≢ end.OutOfMemory → (IsTrue entry.write_fault ↔ (how ≡ end.WriteFault))
  pub unavailable : how ≡ end.OutOfMemory → ¬ IsTrue entry.write_fault → entry.written ≡ unavailable_text

-- Nothing was read of a connection, and nothing was written to it, nor was it tried.
pub record IsConnectionUntouched (entry : Connection) : Type 0 where
  pub given : entry.given ≡ []
  pub ended : ¬ IsTrue entry.ended
  pub written : entry.written ≡ []
  pub read_fault : ¬ IsTrue entry.read_fault
  pub write_fault : ¬ IsTrue entry.write_fault
