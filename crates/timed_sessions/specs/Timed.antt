-- A session of a client, of either kind, that keeps to its wait. The clock was read before it.
use Rattle.std.specs.Prelude.{◌≡◌, ℕ, ◌≤◌, if◌then◌else◌, Bool, List, [], ◌∷◌, Result, MatchBool}
use Rattle.sb_model.specs.declared.time.Moment.{Moment}
use Rattle.sb_outside.specs.Outside.{IfTold, with_entry}
use Rattle.sb_outside.specs.declared.links.Kind.{Kind}
use Rattle.sb_outside.specs.declared.links.Session.{Session}
use Rattle.http_edge.specs.Exchanges.{IsSessionOf, IsOpenExchange, SendsWhole}
use Rattle.http_edge.specs.Outcomes.{SessionOutcome, ReadsNoFurther}
use Rattle.http_edge.specs.declared.faults.ExchangeFault.{ExchangeFault}
use Rattle.http_edge.specs.declared.messages.Target.{Target}
use Rattle.wait_rules.specs.Waits.{may_send_at}
use Rattle.wait_rules.specs.declared.waits.WaitState.{WaitState}
use Rattle.client_line.specs.Lines.{LineView, KeepsLink}
use Rattle.timed_sessions.specs.Told.{Outside, with_more, Trace}
use Rattle.timed_sessions.specs.declared.timing.Opening.{Opening}
use Rattle.timed_sessions.specs.declared.timing.Talk.{Talk}

-- What the clock read before a session, when this began and when it was closed, and its entry in the link's log.
pub record TimedSession : Type 0 where
  pub read : Moment
  pub begun : Moment
  pub closed : Moment
  pub entry : Session

-- A session begins at what the clock read where it may then, and else at a later reading, after the allowed moment.
pub record IsBeginning (waits : WaitState) (read begun : Moment) : Type 0 where
  pub at_once : MatchBool (may_send_at waits read) (begun ≡ read) (read.0 ≤ begun.0)
  pub allowed : waits.allowed_at.0 ≤ begun.0

-- One session of this kind asks for this body: it begins at an allowed moment, and is closed at a later one.
pub record IsTimedSession (waits : WaitState) (target : Target) (kind : Kind) (body : List ℕ) (session : TimedSession) : Type 0 where
  pub begins : IsBeginning waits session.read session.begun
  pub is : IsSessionOf target kind body session.begun session.closed session.entry
  pub rises : session.begun.0 ≤ session.closed.0

-- It was held to its end: the whole request was sent unless it failed, it was read no further than its answer, and this is
-- its outcome.
pub record IsHeldToEnd (target : Target) (kind : Kind) (body : List ℕ) (need : Bool) (entry : Session) (outcome : Result (List ℕ) ExchangeFault) : Type 0 where
  pub sends : SendsWhole target kind body entry
  pub reads : ReadsNoFurther need entry
  pub decides : SessionOutcome need entry outcome

-- the clock's reading at the end of the wait, where there was one
abbrev pub moments_before : WaitState → Moment → Moment → List Moment
moments_before waits read begun = if may_send_at waits read then [] else begun ∷ []

-- the clock's readings after the first: the end of the wait, where there was one, and when the session was closed
abbrev pub moments_after : WaitState → TimedSession → List Moment
moments_after waits session =
    if may_send_at waits session.read then session.closed ∷ [] else session.begun ∷ session.closed ∷ []

-- the moment that the clock was bidden to wait until, where it read one that is too early: the allowed one
abbrev pub waits_from : WaitState → Moment → List Moment
waits_from waits read = if may_send_at waits read then [] else waits.allowed_at ∷ []

-- what is told more of a session after the clock was read, and with that reading
abbrev pub trace_after : WaitState → TimedSession → List ℕ → Trace
trace_after waits session drawn = record {
  sessions = session.entry ∷ [];
  readings = moments_after waits session;
  waits = waits_from waits session.read;
  drawn = drawn;
}

abbrev pub trace_of : WaitState → TimedSession → List ℕ → Trace
trace_of waits session drawn = record {
  sessions = session.entry ∷ [];
  readings = session.read ∷ moments_after waits session;
  waits = waits_from waits session.read;
  drawn = drawn;
}

-- ---- what is told of a session, after the clock was read

-- A session begins at this moment, and the clock was bidden to wait until the allowed one exactly where it read one that is too early.
pub record HasBegun (waits : WaitState) (read : Moment) (before after : LineView) (begun : Moment) : Type 0 where
  pub is : IsBeginning waits read begun
  pub readings : IfTold after.told.readings (with_more before.told.readings (moments_before waits read begun))
  pub bade : IfTold after.told.waits (with_more before.told.waits (waits_from waits read))
  pub last : after.last ≡ begun.0
  pub others : KeepsLink before after

-- A session begins when it may and is open, its request was sent whole or the link failed, and nothing was received in it yet. No
-- word was drawn.
pub record IsTimedOpening (waits : WaitState) (read : Moment) (target : Target) (kind : Kind) (body : List ℕ) (before after : Outside) (opening : Opening) : Type 0 where
  pub begins : IsBeginning waits read opening.begun
  pub opened : IsOpenExchange target kind body opening.begun before.log after.log opening.sent
  pub readings : IfTold after.readings (with_more before.readings (moments_before waits read opening.begun))
  pub bade : IfTold after.waits (with_more before.waits (waits_from waits read))
  pub undrawn : after.drawn ≡ before.drawn

-- The link has a session more, the clock has its readings, and was bidden to wait until the allowed moment or not at all. No word was
-- drawn.
pub record TellsSession (waits : WaitState) (session : TimedSession) (before after : Outside) : Type 0 where
  pub logged : IfTold after.log (with_entry before.log session.entry)
  pub readings : IfTold after.readings (with_more before.readings (moments_after waits session))
  pub bade : IfTold after.waits (with_more before.waits (waits_from waits session.read))
  pub undrawn : after.drawn ≡ before.drawn

-- A session was held to its end.
pub record HoldsTimed (waits : WaitState) (read : Moment) (target : Target) (kind : Kind) (body : List ℕ) (need : Bool) (before after : Outside) (talk : Talk) : Type 0 where
  pub session : TimedSession
  pub is : IsTimedSession waits target kind body session
  pub held : IsHeldToEnd target kind body need session.entry talk.answer
  pub told : TellsSession waits session before after
  pub reading : session.read ≡ read
  pub begins : session.begun ≡ talk.begun
  pub closes : session.closed ≡ talk.closed

-- A session was held and closed, if it was not held to its end.
pub record HoldsTimedPart (waits : WaitState) (read : Moment) (target : Target) (kind : Kind) (body : List ℕ) (before after : Outside) : Type 0 where
  pub session : TimedSession
  pub is : IsTimedSession waits target kind body session
  pub told : TellsSession waits session before after
  pub reading : session.read ≡ read
