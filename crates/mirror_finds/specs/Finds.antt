-- The finds of a mirror, one after the other: each is begun and ended in two parts, and is passed on, or stopped if memory is refused.
use Rattle.std.specs.Prelude.{◌≡◌, ◌≤◌, ℕ, Bool, List, [], ◌∷◌, ◌++◌, Option, Some, None, IfSome}
use Rattle.std.specs.List.{fold}
use Rattle.client_line.specs.Lines.{LineView, ReadsClock}
use Rattle.find_sessions.specs.Passing.{IsOpenPassed, IsPassedFind, PassedInTurn, closed_in_turn, passed_body}
use Rattle.hash_messages.specs.Messages.{AskedHashes}
use Rattle.http_edge.specs.declared.messages.Target.{Target}
use Rattle.mirror_finds.specs.declared.finds.EndedFind.{EndedFind}
use Rattle.mirror_finds.specs.declared.finds.OpenFind.{OpenFind}
use Rattle.sb_model.specs.declared.time.Moment.{Moment}
use Rattle.sb_outside.specs.declared.links.Kind.TheVariants.{Find}
use Rattle.timed_sessions.specs.Told.{Trace, Grows, no_trace, then_trace}
use Rattle.timed_sessions.specs.Timed.{TimedSession, IsTimedSession, trace_of}
use Rattle.timed_sessions.specs.Waiting.{drawn_of, waits_after}
use Rattle.wait_rules.specs.declared.waits.WaitState.{WaitState}

-- The finds of a mirror at one moment: when the next session may begin, and the find that is open.
pub record FindsSeen : Type 0 where
  pub waits : WaitState
  pub opened : Option OpenFind

-- What they began with: the state of waiting, and what the line told then.
pub record FindsStart : Type 0 where
  pub waits : WaitState
  pub line : LineView

-- ---- one find

-- A find for which memory was refused: the states that it was to carry, what was asked, what the clock read, and its session if one was
-- begun.
pub record StoppedFind : Type 0 where
  pub states : List (List ℕ)
  pub asked : AskedHashes
  pub now : Moment
  pub session : Option TimedSession

-- A find in its turn was passed on, or it was stopped.
pub data FindInTurn : Type 0 where
  Passed : PassedInTurn → FindInTurn
  Stopped : StoppedFind → FindInTurn

-- One session asks what was asked, with these states, and begins at the first moment that is allowed after the clock read this.
pub record IsStoppedSession (target : Target) (waits : WaitState) (one : StoppedFind) (session : TimedSession) : Type 0 where
  pub is : IsTimedSession waits target Find (passed_body one.states one.asked) session
  pub reading : session.read ≡ one.now

-- A find was passed on in this state of waiting, or stopped: before a session was begun, or in one.
abbrev pub IsFindInTurn : Target → Bool → WaitState → FindInTurn → Type 0
IsFindInTurn target need waits (Passed one) = IsPassedFind one.states target need waits one.asked one.now one.passed
IsFindInTurn target need waits (Stopped one) = IfSome one.session (λ session. IsStoppedSession target waits one session)

-- the session of a find, if one was begun
abbrev pub session_of_find : FindInTurn → Option TimedSession
session_of_find (Passed one) = Some one.passed.session
session_of_find (Stopped one) = one.session

-- the state of waiting after a find: one that was stopped leaves it as it was
abbrev pub waits_after_find : WaitState → FindInTurn → WaitState
waits_after_find waits (Passed one) = waits_after waits (closed_in_turn one)
waits_after_find waits (Stopped one) = waits

-- what is told more of a find that was stopped: the clock's reading before it, and its session if one was begun
abbrev pub trace_of_stopped : WaitState → Moment → Option TimedSession → Trace
trace_of_stopped waits now None = record { sessions = []; readings = now ∷ []; waits = []; drawn = [] }
trace_of_stopped waits now (Some session) = trace_of waits session []

-- what is told more of a find: the clock's reading before it, its session, and the word that was drawn after it
abbrev pub trace_of_find : WaitState → FindInTurn → Trace
trace_of_find waits (Passed one) = trace_of waits one.passed.session (drawn_of one.passed.word)
trace_of_find waits (Stopped one) = trace_of_stopped waits one.now one.session

-- ---- one after the other

-- Each was passed on or stopped in the state of waiting that those before it left.
abbrev pub AreFindsInTurn : Target → Bool → WaitState → List FindInTurn → Type 0
AreFindsInTurn target need waits [] = Unit {0}
AreFindsInTurn target need waits (one ∷ all) = IsFindInTurn target need waits one × AreFindsInTurn target need (waits_after_find waits one) all

-- the state of waiting after any number of finds
abbrev pub waits_after_finds : WaitState → List FindInTurn → WaitState
waits_after_finds waits finds = fold waits_after_find waits finds

-- what is told more of any number of finds
abbrev pub trace_of_finds : WaitState → List FindInTurn → Trace
trace_of_finds waits [] = no_trace
trace_of_finds waits (one ∷ all) = then_trace (trace_of_find waits one) (trace_of_finds (waits_after_find waits one) all)

-- No session of these finds precedes its allowed moment: each begins, in the link's log too, at or after the moment that the finds before it
-- left.
abbrev pub FindsKeepToWaits : WaitState → List FindInTurn → Type 0
FindsKeepToWaits waits [] = Unit {0}
FindsKeepToWaits waits (one ∷ all) =
    IfSome (session_of_find one) (λ session. waits.allowed_at.0 ≤ session.entry.begun.0) × FindsKeepToWaits (waits_after_find waits one) all

-- ---- finds so far

-- The clock was read, and the session of a find was begun and is open.
pub record HasBegunFind (target : Target) (waits : WaitState) (before after : LineView) (find : OpenFind) : Type 0 where
  pub between : LineView
  pub reads : ReadsClock find.now before between
  pub opened : IsOpenPassed find.states target find.now find.asked waits between after find.opening

-- Since a moment nothing was done on a line but that a find was begun, if one is open.
abbrev pub IsFindOpenSince : Target → WaitState → (before after : LineView) → Option OpenFind → Type 0
IsFindOpenSince target waits before after None = after ≡ before
IsFindOpenSince target waits before after (Some find) = HasBegunFind target waits before after find

-- These finds were passed on or stopped since the beginning, in this order, and a further one may be open.
pub record HasPassedFinds (target : Target) (need : Bool) (start : FindsStart) (finds : List FindInTurn) (now : FindsSeen) (line : LineView) : Type 0 where
  pub between : LineView
  pub are : AreFindsInTurn target need start.waits finds
  pub told : Grows start.line.told between.told (trace_of_finds start.waits finds)
  pub waits_are : now.waits ≡ waits_after_finds start.waits finds
  pub session : IsFindOpenSince target now.waits between line now.opened

-- Since some moment nothing was done on the line but that the find was begun that is open.
abbrev pub HasFindOpen : Target → FindsSeen → LineView → Type 0
HasFindOpen target now line = (before : LineView) × (find : OpenFind) × (now.opened ≡ Some find) × HasBegunFind target now.waits before line find

-- what they began with, if they were seen so
abbrev pub finds_start : FindsSeen → LineView → FindsStart
finds_start now line = record { waits = now.waits; line = line }

-- ---- one more

-- A find that was open was ended and is one more of those that were passed on: what was asked and what was answered are those of it.
pub record EndsFind (target : Target) (need : Bool) (start : FindsStart) (finds : List FindInTurn) (after : FindsSeen) (line : LineView) (find : OpenFind) (ended : EndedFind) : Type 0 where
  pub one : PassedInTurn
  pub has : HasPassedFinds target need start (finds ++ Passed one ∷ []) after line
  pub closed : after.opened ≡ None
  pub states : one.states ≡ find.states
  pub asked : one.asked ≡ find.asked
  pub read : one.now ≡ find.now
  pub answered : ended.answer ≡ one.passed.answer
  pub given_back : ended.asked ≡ find.asked

-- Memory was refused for a find, before which the clock read this: it is one more of those that were stopped, with these states and this
-- request, and none is open.
pub record StopsFind (target : Target) (need : Bool) (start : FindsStart) (finds : List FindInTurn) (after : FindsSeen) (line : LineView) (states : List (List ℕ)) (asked : AskedHashes) (now : Moment) : Type 0 where
  pub one : StoppedFind
  pub has : HasPassedFinds target need start (finds ++ Stopped one ∷ []) after line
  pub closed : after.opened ≡ None
  pub states_are : one.states ≡ states
  pub asks : one.asked ≡ asked
  pub read : one.now ≡ now
