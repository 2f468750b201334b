-- A desk: what it keeps, when its next find may be sent, and the find that is open; and what its events so far made of it.
use Rattle.std.specs.Prelude.{◌≡◌, ◌⊎◌, ℕ, Bool, List, [], ◌∷◌, ◌++◌, Option, Some, None, IfSome}
use Rattle.client_line.specs.Lines.{LineView, ReadsClock}
use Rattle.find_desk.specs.Events.{AreDeskEvents, BrokenFind, DeskEvent, Forgot, Found, LookedUp, MadeFind, Stopped, kept_after_events, trace_of_events, waits_after_events}
use Rattle.find_desk.specs.declared.desk.EndedFind.{EndedFind}
use Rattle.find_desk.specs.declared.desk.OpenDeskFind.{OpenDeskFind}
use Rattle.find_sessions.specs.Asking.{StopsAsking}
use Rattle.full_hash_cache.specs.Cache.{Pairs}
use Rattle.http_edge.specs.declared.messages.Target.{Target}
use Rattle.sb_model.specs.declared.time.Moment.{Moment}
use Rattle.timed_sessions.specs.Told.{Grows}
use Rattle.url_checker.specs.Looking.{IsOpenFind}
use Rattle.url_checker.specs.Resolving.{find_body_asked}
use Rattle.url_checker.specs.Several.{AreTogether}
use Rattle.url_checker.specs.declared.findings.Hit.{Hit}
use Rattle.url_checker.specs.declared.looking.Looks.{Looks}
use Rattle.wait_rules.specs.declared.waits.WaitState.{WaitState}

-- A desk at one moment: what it keeps, when the session of its next find may begin, and the find that is open.
pub record DeskSeen : Type 0 where
  pub kept : Pairs
  pub waits : WaitState
  pub opened : Option OpenDeskFind

-- What it began with: what was kept, the state of waiting, and what the line told then.
pub record DeskStart : Type 0 where
  pub kept : Pairs
  pub waits : WaitState
  pub line : LineView

-- what it began with, if it was seen so
abbrev pub desk_start : DeskSeen → LineView → DeskStart
desk_start now line = record { kept = now.kept; waits = now.waits; line = line }

-- ---- its events so far

-- The clock was read, and the session of a find was begun and is open.
pub record HasBegunAsking (target : Target) (waits : WaitState) (before after : LineView) (find : OpenDeskFind) : Type 0 where
  pub between : LineView
  pub reads : ReadsClock find.now before between
  pub opened : IsOpenFind find.states target find.now find.asked waits between after find.find

-- Since a moment nothing was done on a line but that a find was begun, if one is open.
abbrev pub IsAskingSince : Target → WaitState → (before after : LineView) → Option OpenDeskFind → Type 0
IsAskingSince target waits before after None = after ≡ before
IsAskingSince target waits before after (Some find) = HasBegunAsking target waits before after find

-- These are the events since the beginning, in this order, and a find may be open.
pub record HasKeptDesk (target : Target) (need : Bool) (start : DeskStart) (events : List DeskEvent) (now : DeskSeen) (line : LineView) : Type 0 where
  pub between : LineView
  pub are : AreDeskEvents target need start.waits events
  pub told : Grows start.line.told between.told (trace_of_events start.waits events)
  pub kept_is : now.kept ≡ kept_after_events start.kept events
  pub waits_are : now.waits ≡ waits_after_events start.waits events
  pub session : IsAskingSince target now.waits between line now.opened

-- Since some moment nothing was done on the line but that the find was begun that is open.
abbrev pub HasDeskOpen : Target → DeskSeen → LineView → Type 0
HasDeskOpen target now line = (before : LineView) × (find : OpenDeskFind) × (now.opened ≡ Some find) × HasBegunAsking target now.waits before line find

-- ---- one more

-- hits that were looked up at a moment, as an event
abbrev pub looked_up : Moment → List Hit → DeskEvent
looked_up now hits = LookedUp (record { now = now; hits = hits })

-- These hits are the open ones of as many of the first looks as one find may ask for.
pub record AreFirstAsked (looks : List Looks) (asked : List Hit) : Type 0 where
  pub count : ℕ
  pub are : AreTogether looks (record { count = count; asked = asked })

-- Memory was refused when a find was to be begun for the first of some looks, after the clock was read: before a session that asks for their
-- open hits, or in it.
pub record BreaksOffAsking (target : Target) (waits : WaitState) (states : List (List ℕ)) (looks : List Looks) (before after : LineView) : Type 0 where
  pub now : Moment
  pub between : LineView
  pub reads : ReadsClock now before between
  pub asked : List Hit
  pub stops : (after ≡ between) ⊎ (AreFirstAsked looks asked × StopsAsking waits now target (find_body_asked states asked) between.told after.told)

-- The find that was open was ended and is one more event. It asked for the hits that it was begun with, and its answer is given back.
pub record EndsDeskFind (target : Target) (need : Bool) (start : DeskStart) (events : List DeskEvent) (after : DeskSeen) (line : LineView) (find : OpenDeskFind) (ended : EndedFind) : Type 0 where
  pub one : MadeFind
  pub has : HasKeptDesk target need start (events ++ Found one ∷ []) after line
  pub states_are : one.states ≡ find.states
  pub asks : one.asked ≡ find.asked
  pub read : one.now ≡ find.now
  pub answered : ended.answer ≡ one.talk.answer
  pub given_back : ended.asked ≡ one.asked

-- Memory was refused when a find was to be begun for the first of some looks: it is one more event, and if its session was begun, it
-- asked for their open hits, with these states.
pub record StopsAtItsBeginning (target : Target) (need : Bool) (start : DeskStart) (events : List DeskEvent) (after : DeskSeen) (line : LineView) (states : List (List ℕ)) (looks : List Looks) : Type 0 where
  pub one : BrokenFind
  pub has : HasKeptDesk target need start (events ++ Stopped one ∷ []) after line
  pub states_are : IfSome one.part (λ part. part.states ≡ states)
  pub asks : IfSome one.part (λ part. AreFirstAsked looks part.asked)

-- Memory was refused when the find that was open was to be ended: it is one more event, and what was kept is dropped.
pub record StopsAtItsEnd (target : Target) (need : Bool) (start : DeskStart) (events : List DeskEvent) (after : DeskSeen) (line : LineView) (find : OpenDeskFind) : Type 0 where
  pub one : BrokenFind
  pub has : HasKeptDesk target need start (events ++ Stopped one ∷ Forgot ∷ []) after line
  pub states_are : IfSome one.part (λ part. part.states ≡ find.states)
  pub asks : IfSome one.part (λ part. part.asked ≡ find.asked)
  pub read : one.now ≡ find.now
