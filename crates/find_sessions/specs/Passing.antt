-- A find that is passed on: another client asked, and the request is sent as it asked, but for the states of the lists. They are those of
-- the newest lists of who passes it on.
use Rattle.std.specs.Prelude.{◌≡◌, ◌≢◌, ℕ, Bool, List, [], ◌∷◌, map, Option, Result, Err}
use Rattle.sb_model.specs.declared.time.Moment.{Moment}
use Rattle.sb_outside.specs.Outside.{Rose}
use Rattle.sb_outside.specs.declared.links.Kind.TheVariants.{Find}
use Rattle.hash_messages.specs.Messages.{AskedHashes}
use Rattle.hash_messages.specs.declared.response.FindResponse.{FindResponse}
use Rattle.http_edge.specs.Exchanges.{CountsSendFault}
use Rattle.http_edge.specs.declared.faults.ExchangeFault.{ExchangeFault}
use Rattle.http_edge.specs.declared.faults.ExchangeFault.TheVariants.{Link}
use Rattle.http_edge.specs.declared.messages.Target.{Target}
use Rattle.wait_rules.specs.declared.waits.WaitState.{WaitState}
use Rattle.client_line.specs.Lines.{LineView}
use Rattle.timed_sessions.specs.Told.{Outside, Grows}
use Rattle.timed_sessions.specs.Timed.{TimedSession, IsTimedSession, IsTimedOpening, IsHeldToEnd, trace_after}
use Rattle.timed_sessions.specs.Waiting.{ClosedSession, IsDrawnFor, KeepToWaits, drawn_of, waits_after}
use Rattle.timed_sessions.specs.declared.timing.Opening.{Opening}
use Rattle.verdict_report.specs.declared.verdicts.Cause.{Cause}
use Rattle.verdict_report.specs.declared.verdicts.Cause.TheVariants.{Exchange}
use Rattle.find_sessions.specs.Asking.{find_body, find_bids, IsFindAnswerOf}

-- ---- the find

-- the request that is sent: the asked one, with these states in place of its own
abbrev pub passed_request : List (List ℕ) → AskedHashes → AskedHashes
passed_request states asked = record asked { states = states }

-- the body of that request
abbrev pub passed_body : List (List ℕ) → AskedHashes → List ℕ
passed_body states asked = find_body (passed_request states asked)

-- A find that was passed on: its session, the message that it brought, or why it brought none, and the word that was drawn.
pub record PassedFind : Type 0 where
  pub session : TimedSession
  pub answer : Result FindResponse Cause
  pub word : Option ℕ

-- One session asks what was asked, with these states, at the first moment that is allowed after the clock read this, is read no further
-- than its answer, and that answer is read.
pub record IsPassedFind (states : List (List ℕ)) (target : Target) (need : Bool) (waits : WaitState) (asked : AskedHashes) (now : Moment) (passed : PassedFind) : Type 0 where
  pub session : IsTimedSession waits target Find (passed_body states asked) passed.session
  pub outcome : Result (List ℕ) ExchangeFault
  pub held : IsHeldToEnd target Find (passed_body states asked) need passed.session.entry outcome
  pub answers : IsFindAnswerOf outcome passed.answer
  pub drawn : IsDrawnFor (find_bids passed.answer) passed.word
  pub reading : passed.session.read ≡ now

-- a find that was passed on, as a session that was closed
abbrev pub closed_passed : PassedFind → ClosedSession
closed_passed passed = record { session = passed.session; bids = find_bids passed.answer; word = passed.word }

-- ---- its two parts

-- Its session is open: it begins when it may, and nothing was received in it yet. A fault of the link is counted.
pub record IsOpenPassed (states : List (List ℕ)) (target : Target) (now : Moment) (asked : AskedHashes) (waits : WaitState) (before after : LineView) (opening : Opening) : Type 0 where
  pub opened : IsTimedOpening waits now target Find (passed_body states asked) before.told after.told opening
  pub last : after.last ≡ opening.begun.0
  pub counts : CountsSendFault opening.sent before.told.faults after.told.faults

-- What a find is passed on with: the states that it carries, whom it asks, whether a digest is needed, what the clock read, and what was
-- asked.
pub record FindToPass : Type 0 where
  pub states : List (List ℕ)
  pub target : Target
  pub need : Bool
  pub now : Moment
  pub asked : AskedHashes

abbrev pub find_to_pass : List (List ℕ) → Target → Bool → Moment → AskedHashes → FindToPass
find_to_pass states target need now asked = record { states = states; target = target; need = need; now = now; asked = asked }

-- A find was passed on and ended: this is what was answered, the wait that it left, and what is told more. A fault of the link is counted,
-- and nothing else is.
pub record PassesFind (find : FindToPass) (waits waits' : WaitState) (before after : Outside) (answer : Result FindResponse Cause) : Type 0 where
  pub passed : PassedFind
  pub is : IsPassedFind find.states find.target find.need waits find.asked find.now passed
  pub told : Grows before after (trace_after waits passed.session (drawn_of passed.word))
  pub answered : answer ≡ passed.answer
  pub waits_are : waits' ≡ waits_after waits (closed_passed passed)
  pub failed : passed.answer ≡ Err (Exchange Link) → Rose before.faults after.faults
  pub kept : passed.answer ≢ Err (Exchange Link) → after.faults ≡ before.faults

-- ---- one after the other

-- A find that was passed on in its turn: the states that it carried, what was asked, what the clock read, and what became of it.
pub record PassedInTurn : Type 0 where
  pub states : List (List ℕ)
  pub asked : AskedHashes
  pub now : Moment
  pub passed : PassedFind

abbrev pub closed_in_turn : PassedInTurn → ClosedSession
closed_in_turn one = closed_passed one.passed

-- Each was passed on from the state of waiting that those before it left.
abbrev pub ArePassedFinds : Target → Bool → WaitState → List PassedInTurn → Type 0
ArePassedFinds target need waits [] = Unit {0}
ArePassedFinds target need waits (one ∷ all) =
    IsPassedFind one.states target need waits one.asked one.now one.passed × ArePassedFinds target need (waits_after waits (closed_in_turn one)) all

-- No session of finds that are passed on precedes its allowed moment.
abbrev pub PassedFindsKeepToWaits : Type 0
PassedFindsKeepToWaits = (target : Target) (need : Bool) (waits : WaitState) (all : List PassedInTurn)
    → ArePassedFinds target need waits all → KeepToWaits waits (map closed_in_turn all)
