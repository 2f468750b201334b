-- The session of a find whose request is given: what it sends, what its outcome comes to, and how it may break off.
use Rattle.std.specs.Prelude.{◌≡◌, ℕ, ◌⊎◌, Bool, List, Option, Some, None, Result, Ok, Err}
use Rattle.sb_model.specs.declared.time.Moment.{Moment}
use Rattle.sb_model.specs.declared.time.Duration.{Duration}
use Rattle.sb_outside.specs.declared.links.Kind.TheVariants.{Find}
use Rattle.sb_json.specs.Values.{value_of}
use Rattle.update_messages.specs.Reading.{IsTextOf}
use Rattle.update_messages.specs.Faults.{fault_of_text}
use Rattle.hash_messages.specs.Messages.{AskedHashes}
use Rattle.hash_messages.specs.Reading.{ReadsFindResponse}
use Rattle.hash_messages.specs.Faults.{fault_of_find_response}
use Rattle.hash_messages.specs.Writing.{spelling_of_find_request}
use Rattle.hash_messages.specs.declared.response.FindResponse.{FindResponse}
use Rattle.http_edge.specs.declared.faults.ExchangeFault.{ExchangeFault}
use Rattle.http_edge.specs.declared.messages.Target.{Target}
use Rattle.wait_rules.specs.declared.waits.WaitState.{WaitState}
use Rattle.timed_sessions.specs.Told.{Outside}
use Rattle.timed_sessions.specs.Timed.{HoldsTimed, HoldsTimedPart}
use Rattle.verdict_report.specs.declared.verdicts.Cause.{Cause}
use Rattle.verdict_report.specs.declared.verdicts.Cause.TheVariants.{NotBefore, Exchange, Message}
use Rattle.find_sessions.specs.declared.asking.AnsweredFind.{AnsweredFind}

-- the body of a request for a find: its one spelling
unfoldable pub find_body : AskedHashes → List ℕ
find_body asked = spelling_of_find_request asked

-- What a session's outcome comes to: its fault, or the message that its body is, or the first fault of that body.
abbrev pub IsFindAnswerOf : Result (List ℕ) ExchangeFault → Result FindResponse Cause → Type 0
IsFindAnswerOf (Err fault) answer = answer ≡ Err (Exchange fault)
IsFindAnswerOf (Ok body) (Ok message) = IsTextOf ReadsFindResponse body message
IsFindAnswerOf (Ok body) (Err (Message fault)) = fault_of_text fault_of_find_response (value_of body) ≡ Some fault
IsFindAnswerOf (Ok body) (Err (Exchange fault)) = ⊥
IsFindAnswerOf (Ok body) (Err (NotBefore moment)) = ⊥

-- how long a message bids to wait
abbrev pub find_bids : Result FindResponse Cause → Option Duration
find_bids (Ok message) = Some message.wait
find_bids (Err cause) = None

-- A session was held to its end, and its outcome comes to this answer.
pub record HearsFind (waits : WaitState) (now : Moment) (target : Target) (body : List ℕ) (need : Bool) (before after : Outside) (answered : AnsweredFind) : Type 0 where
  pub begun : Moment
  pub outcome : Result (List ℕ) ExchangeFault
  pub holds : HoldsTimed waits now target Find body need before after (record { begun = begun; closed = answered.closed; answer = outcome })
  pub answers_it : IsFindAnswerOf outcome answered.answer

-- Memory was wanting before a session for this body, or after it.
abbrev pub StopsAsking : WaitState → Moment → Target → List ℕ → Outside → Outside → Type 0
StopsAsking waits now target body before after = (after ≡ before) ⊎ HoldsTimedPart waits now target Find body before after
