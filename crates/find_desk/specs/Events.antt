-- What is looked up and found at a desk, event by event. What is kept, when the next find may be sent, and what the line tells follow from
-- the events.
use Rattle.std.specs.Prelude.{◌≡◌, ◌≤◌, ℕ, Bool, List, [], ◌∷◌, Option, Some, None, IfSome}
use Rattle.std.specs.List.{fold}
use Rattle.full_hash_cache.specs.Cache.{Pairs}
use Rattle.http_edge.specs.declared.messages.Target.{Target}
use Rattle.sb_model.specs.declared.time.Moment.{Moment}
use Rattle.sb_outside.specs.declared.links.Kind.TheVariants.{Find}
use Rattle.timed_sessions.specs.Told.{Trace, no_trace, then_trace}
use Rattle.timed_sessions.specs.Timed.{TimedSession, IsTimedSession, trace_of}
use Rattle.timed_sessions.specs.Waiting.{drawn_of, waits_after}
use Rattle.url_checker.specs.Hits.{AreAskable}
use Rattle.url_checker.specs.Resolving.{FindTalk, IsFindTalk, closed_find, find_asked, find_body_asked, kept_by, lists_hit, looked_up_pairs, trace_of_reading}
use Rattle.url_checker.specs.declared.findings.Hit.{Hit}
use Rattle.wait_rules.specs.declared.waits.WaitState.{WaitState}

-- ---- one event

-- Hits, and the moment at which they were looked up.
pub record HitsLookedUp : Type 0 where
  pub now : Moment
  pub hits : List Hit

-- A find that was made and ended: the states that it carried, the hits that it asked for, what the clock read before it, and what became
-- of it.
pub record MadeFind : Type 0 where
  pub states : List (List ℕ)
  pub asked : List Hit
  pub now : Moment
  pub talk : FindTalk

-- The session of a find for which memory was refused: the states that it carried, and the hits that it asked for.
pub record BrokenSession : Type 0 where
  pub states : List (List ℕ)
  pub asked : List Hit
  pub session : TimedSession

-- A find for which memory was refused: what the clock read before it, and its session, if one was begun.
pub record BrokenFind : Type 0 where
  pub now : Moment
  pub part : Option BrokenSession

-- Hits were looked up in what is kept. A find was made and ended, or memory was refused for one. Or what is kept was dropped, since memory
-- was refused while something was done to it.
pub data DeskEvent : Type 0 where
  LookedUp : HitsLookedUp → DeskEvent
  Found : MadeFind → DeskEvent
  Stopped : BrokenFind → DeskEvent
  Forgot : DeskEvent

-- One session asks for these hits, with these states, and begins at the first moment that is allowed after the clock read this.
pub record IsBrokenSession (target : Target) (waits : WaitState) (now : Moment) (part : BrokenSession) : Type 0 where
  pub is : IsTimedSession waits target Find (find_body_asked part.states part.asked) part.session
  pub reading : part.session.read ≡ now

-- An event is possible in this state of waiting: hits are such that one request can ask for them, and a find is one session, which
-- begins at the first moment that is allowed after the clock was read.
abbrev pub IsDeskEvent : Target → Bool → WaitState → DeskEvent → Type 0
IsDeskEvent target need waits (LookedUp look) = AreAskable look.hits
IsDeskEvent target need waits (Found one) = IsFindTalk one.states target need waits one.asked one.now one.talk
IsDeskEvent target need waits (Stopped one) = IfSome one.part (λ part. IsBrokenSession target waits one.now part)
IsDeskEvent target need waits Forgot = Unit {0}

-- What is kept after an event: a look moves the pairs that it looked up to the front, and the message of a find is kept for the lists of
-- the hits that were asked.
abbrev pub kept_after_event : Pairs → DeskEvent → Pairs
kept_after_event kept (LookedUp look) = looked_up_pairs kept look.hits
kept_after_event kept (Found one) = kept_by one.talk.session.closed (lists_hit one.asked) (find_asked one.states one.asked) one.talk.answer kept
kept_after_event kept (Stopped one) = kept
kept_after_event kept Forgot = []

-- the state of waiting after an event: a find that was stopped leaves it as it was
abbrev pub waits_after_event : WaitState → DeskEvent → WaitState
waits_after_event waits (LookedUp look) = waits
waits_after_event waits (Found one) = waits_after waits (closed_find one.talk)
waits_after_event waits (Stopped one) = waits
waits_after_event waits Forgot = waits

-- the session of an event, if one was begun
abbrev pub session_of_broken : Option BrokenSession → Option TimedSession
session_of_broken None = None
session_of_broken (Some part) = Some part.session

abbrev pub session_of_event : DeskEvent → Option TimedSession
session_of_event (LookedUp look) = None
session_of_event (Found one) = Some one.talk.session
session_of_event (Stopped one) = session_of_broken one.part
session_of_event Forgot = None

-- what is told more of a find that was stopped: the clock's reading before it, and its session if one was begun
abbrev pub trace_of_broken : WaitState → Moment → Option BrokenSession → Trace
trace_of_broken waits now None = trace_of_reading now
trace_of_broken waits now (Some part) = trace_of waits part.session []

-- what is told more of an event: nothing of a look, and of a find the clock's reading before it, its session, and the word that was drawn
-- after it
abbrev pub trace_of_event : WaitState → DeskEvent → Trace
trace_of_event waits (LookedUp look) = no_trace
trace_of_event waits (Found one) = trace_of waits one.talk.session (drawn_of one.talk.word)
trace_of_event waits (Stopped one) = trace_of_broken waits one.now one.part
trace_of_event waits Forgot = no_trace

-- ---- one after the other

-- Each is possible in the state of waiting that those before it left.
abbrev pub AreDeskEvents : Target → Bool → WaitState → List DeskEvent → Type 0
AreDeskEvents target need waits [] = Unit {0}
AreDeskEvents target need waits (one ∷ all) = IsDeskEvent target need waits one × AreDeskEvents target need (waits_after_event waits one) all

-- what is kept, and the state of waiting, after any number of events
abbrev pub kept_after_events : Pairs → List DeskEvent → Pairs
kept_after_events kept events = fold kept_after_event kept events

abbrev pub waits_after_events : WaitState → List DeskEvent → WaitState
waits_after_events waits events = fold waits_after_event waits events

-- what is told more of any number of events
abbrev pub trace_of_events : WaitState → List DeskEvent → Trace
trace_of_events waits [] = no_trace
trace_of_events waits (one ∷ all) = then_trace (trace_of_event waits one) (trace_of_events (waits_after_event waits one) all)

-- No session of these events precedes its allowed moment: each begins, in the link's log too, at or after the moment that the events before
-- it left.
abbrev pub DeskKeepsToWaits : WaitState → List DeskEvent → Type 0
DeskKeepsToWaits waits [] = Unit {0}
DeskKeepsToWaits waits (one ∷ all) =
    IfSome (session_of_event one) (λ session. waits.allowed_at.0 ≤ session.entry.begun.0) × DeskKeepsToWaits (waits_after_event waits one) all
