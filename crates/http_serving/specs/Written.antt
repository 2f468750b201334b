-- Answers as a server gives them to be sent: a response, or the text of one that is written out, which others may hold too.
use Rattle.std.specs.Prelude.{◌≡◌, ℕ, List, []}
use Rattle.http_edge.specs.Responses.{response_text}
use Rattle.http_edge.specs.declared.messages.ResponseFields.{ResponseFields}
use Rattle.http_edge.specs.declared.messages.Status.{Status}
use Rattle.http_serving.specs.declared.responses.Answer.{Answer}
use Rattle.http_serving.specs.declared.responses.Answer.TheVariants.{Made, Written, Shared}

-- A text is that of a right response with this status and this cause, where `Right` says what is right of a status, the fields
-- that the server chooses, a body, and a cause.
pub record IsTextOfRight (Right : Status → ResponseFields → (body cause : List ℕ) → Type 0) (status : Status) (cause text : List ℕ) : Type 0 where
  pub fields : ResponseFields
  pub body : List ℕ
  pub right : Right status fields body cause
  pub whole : text ≡ response_text status fields body

-- A right answer: a right response, or the text of one that has no cause.
abbrev pub IsRightAnswer : (Status → ResponseFields → (body cause : List ℕ) → Type 0) → Answer → Type 0
IsRightAnswer Right (Made response) = Right response.status response.fields response.body response.cause
IsRightAnswer Right (Written written) = IsTextOfRight Right written.status [] written.text
IsRightAnswer Right (Shared shared) = IsTextOfRight Right shared.status [] shared.text
