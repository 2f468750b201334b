-- When each step of the look-ups that a proxy holds may come, and what each connection is answered.
use Rattle.std.specs.Prelude.{◌≡◌, ◌≢◌, ◌⊎◌, ◌<◌, ◌≤◌, ◌+◌, ◌-◌, ◌^◌, ℕ, min, Bool, true, false, List, [], ◌∷◌, ◌++◌, drop, length, Option, Some, None, Ok, ⊤, is_some}
use Rattle.find_desk.specs.Desk.{DeskStart}
use Rattle.find_desk.specs.Events.{BrokenFind, DeskEvent, Forgot, MadeFind, Stopped, waits_after_events}
use Rattle.held_connections.specs.Held.{waiting_limit}
use Rattle.held_connections.specs.Over.{ServedConnection}
use Rattle.http_edge.specs.declared.messages.HttpRequest.{HttpRequest}
use Rattle.http_serving.specs.Hearing.{Hears}
use Rattle.http_serving.specs.declared.ends.ConnectionEnd.TheVariants as end
use Rattle.lookup_messages.specs.Messages.{AskedUrls}
use Rattle.proxy_looks.specs.Fates.{IsFateOf, is_one_left_open}
use Rattle.proxy_looks.specs.Settled.{AreLooksOf, AreOnlyLooks, AreUrlsSettled, looks_at}
use Rattle.proxy_looks.specs.Urls.{lists_are_ready, open_hits, urls_asked}
use Rattle.proxy_looks.specs.declared.urls.LookUrl.{LookUrl}
use Rattle.proxy_run.specs.LookEvents.{LinePart, LookEvent, after_look_events, counts_line, line_of_find, line_of_served}
use Rattle.proxy_run.specs.LookEvents.LinePart.{Written, Broken}
use Rattle.proxy_run.specs.LookEvents.LookEvent.{Taken, LookedUp, FindBegan, FindGone, FindEnded, SettledFirst, ReleasedFirst, PutOff, Answered, CountsTold}
use Rattle.proxy_run.specs.LookState.{GoesBy, HandLook, HeldLook, LookState, StartedAsking, open_of}
use Rattle.proxy_run.specs.LookState.GoesBy.{ByFind, ByKept, ByNothing}
use Rattle.proxy_run.specs.declared.plan.ProxyPlan.{ProxyPlan}
use Rattle.proxy_run.specs.declared.stop.ProxyStop.TheVariants as stop
use Rattle.proxy_serving.specs.HeardLook.{IsHeardLook}
use Rattle.proxy_serving.specs.Response.{ProxyServed}
use Rattle.proxy_serving.specs.declared.fate.LookFate.TheVariants.{Unanswered}
use Rattle.sb_model.specs.declared.time.Moment.{Moment}
use Rattle.sb_outside.specs.Outside.{IfTold}
use Rattle.update_client.specs.Held.{Held, tokens_of}
use Rattle.url_checker.specs.Several.{AreTogether}
use Rattle.url_checker.specs.declared.looking.Looks.{Looks}
use Rattle.wait_rules.specs.Waits.{may_send_at}
use Rattle.wait_rules.specs.declared.waits.WaitState.{WaitState}

-- Where a step comes: what the proxy is to do, what its desk began with, the lists that it holds, what its clock read last, and whether the
-- run comes to its end.
pub record LookAt : Type 0 where
  pub plan : ProxyPlan
  pub desk : DeskStart
  pub lists : List Held
  pub now : Moment
  pub ending : Bool

abbrev pub look_at : ProxyPlan → DeskStart → List Held → Moment → Bool → LookAt
look_at plan desk lists now ending = record { plan = plan; desk = desk; lists = lists; now = now; ending = ending }

-- Nothing is left over of the step before: no connection is in hand, and nobody is to be settled. So each is answered in the turn in which it
-- is taken or its find ends, or waits for the next find.
pub record HasNoLookLeft (state : LookState) : Type 0 where
  pub none_in_hand : state.hand ≡ None
  pub none_unsettled : state.unsettled ≡ []

-- when the next find may begin
abbrev pub next_find_waits : LookAt → LookState → WaitState
next_find_waits at state = waits_after_events at.desk.waits state.desk

-- A find is open, or the next may begin before the patience is over.
abbrev pub MayFindCome : LookAt → LookState → Type 0
MayFindCome at state =
    (is_some state.find_open ≡ true)
    ⊎ ((next_find_waits at state).allowed_at.0 ≤ min (at.now.0 + at.plan.patience) (2 ^ 64 - 1))

-- No find is open, and the next may begin only after that.
abbrev pub ComesTooLate : LookAt → LookState → Type 0
ComesTooLate at state =
    (state.find_open ≡ None)
    × (min (at.now.0 + at.plan.patience) (2 ^ 64 - 1) < (next_find_waits at state).allowed_at.0)

-- ---- lines

-- A line is written whole; or the output fails in it, or memory is refused for it.
abbrev pub IsLinePart : List ℕ → LinePart → Type 0
IsLinePart line Written = ⊤
IsLinePart line (Broken why front) =
    ((why ≡ stop.WriteFault) × ((lost : List ℕ) × (front ++ lost ≡ line) × (lost ≢ [])))
    ⊎ ((why ≡ stop.OutOfMemory) × (front ≡ []))

-- The line of a connection that ended for want of memory takes none.
abbrev pub IsServedPart : ServedConnection ProxyServed → LinePart → Type 0
IsServedPart one part = IsLinePart (line_of_served one) part × (part ≡ Broken stop.OutOfMemory [] → one.how ≢ end.OutOfMemory)

-- ---- looking up

-- The connection in hand was taken just now and is a look-up, which may be looked up on these lists. Its URLs have the hits on these lists, and
-- each that has some is looked up now: it is decided by what is kept, or open.
pub record IsFirstLook (at : LookAt) (state : LookState) (urls : List LookUrl) (more : List DeskEvent) : Type 0 where
  pub hand : HandLook
  pub is : state.hand ≡ Some hand
  pub fresh : hand.fresh ≡ true
  pub message : AskedUrls
  pub heard : IsHeardLook hand.received message
  pub ready : lists_are_ready at.lists message ≡ true
  pub looks : List Looks
  pub settled : AreUrlsSettled at.desk (state.desk ++ more) None [] (urls_asked at.lists message) urls looks
  pub only : more ≡ looks_at at.now (open_hits (urls_asked at.lists message))

-- Memory was refused while hits were looked up: the desk has such looks more, or dropped what is kept.
pub record BreaksOffLooking (at : LookAt) (state : LookState) (more : List DeskEvent) : Type 0 where
  pub hand : HandLook
  pub is : state.hand ≡ Some hand
  pub unknown : hand.urls ≡ None
  pub only : AreOnlyLooks at.now more

abbrev pub MayLookUp : LookAt → LookState → Option (List LookUrl) → List DeskEvent → Type 0
MayLookUp at state (Some urls) more = IsFirstLook at state urls more
MayLookUp at state None more = BreaksOffLooking at state more

-- ---- settling

-- This is the first of those that are to be settled, and no connection is in hand.
pub record IsNextToSettle (state : LookState) (first : HeldLook) : Type 0 where
  pub none_in_hand : state.hand ≡ None
  pub rest : List HeldLook
  pub is : state.unsettled ≡ first ∷ rest

-- By the find that is over each URL of the first is decided for which it asked, whatever it brought; each other one that is open is looked up
-- now.
pub record IsSettledByFind (at : LookAt) (state : LookState) (urls : List LookUrl) (more : List DeskEvent) : Type 0 where
  pub first : HeldLook
  pub next : IsNextToSettle state first
  pub one : MadeFind
  pub by : state.by ≡ ByFind one
  pub asked : List Looks
  pub count : length asked ≡ state.asked
  pub looks : List Looks
  pub settled : AreUrlsSettled at.desk (state.desk ++ more) (Some one) asked first.urls urls looks
  pub only : more ≡ looks_at at.now (drop (length asked) (open_hits first.urls))

-- Memory was refused while that was done, or before.
pub record BreaksOffSettling (at : LookAt) (state : LookState) (more : List DeskEvent) : Type 0 where
  pub first : HeldLook
  pub next : IsNextToSettle state first
  pub by : state.by ≢ ByKept
  pub only : AreOnlyLooks at.now more

abbrev pub MaySettleFirst : LookAt → LookState → Option (List LookUrl) → List DeskEvent → Type 0
MaySettleFirst at state (Some urls) more = IsSettledByFind at state urls more
MaySettleFirst at state None more = BreaksOffSettling at state more

pub record MayReleaseFirst (state : LookState) : Type 0 where
  pub first : HeldLook
  pub next : IsNextToSettle state first
  pub by : state.by ≡ ByKept

-- ---- waiting

-- The connection in hand waits: a URL of it is open, and none is for a fault; fewer wait than may; and a find is open or may begin in time.
pub record MayWaitOn (at : LookAt) (state : LookState) : Type 0 where
  pub hand : HandLook
  pub is : state.hand ≡ Some hand
  pub urls : List LookUrl
  pub known : hand.urls ≡ Some urls
  pub kept : hand.released ≡ false
  pub opened : open_hits urls ≢ []
  pub without_fault : is_one_left_open urls ≡ false
  pub room : length state.unsettled + length state.waiting < waiting_limit
  pub comes : MayFindCome at state

-- Why it does not: no URL of it is open, or one is for a fault; as many wait as may; the next find may begin too late; or none is to be had.
abbrev pub MayNotWait : LookAt → LookState → HandLook → List LookUrl → Type 0
MayNotWait at state hand urls =
    (open_hits urls ≡ []) ⊎ (is_one_left_open urls ≡ true) ⊎ (length state.unsettled + length state.waiting ≡ waiting_limit)
    ⊎ ComesTooLate at state ⊎ (hand.released ≡ true)

-- ---- what a connection is answered

-- Memory was refused for it; what is no request is answered as else.
abbrev pub IsRefusedLook : HandLook → ServedConnection ProxyServed → Type 0
IsRefusedLook hand one = (one.how ≡ end.OutOfMemory) ⊎ ((request : HttpRequest) → hand.received ≢ Ok request)

-- It is no look-up, or its lists were not all fetched yet.
abbrev pub IsNotLookedUp : LookAt → HandLook → Type 0
IsNotLookedUp at hand =
    ((message : AskedUrls) → ¬ IsHeardLook hand.received message)
    ⊎ ((message : AskedUrls) × IsHeardLook hand.received message × (lists_are_ready at.lists message ≡ false))

-- The connection in hand is answered: at once without an answer if nothing is to be looked up; else by the verdicts of its URLs, if it may not
-- wait; or memory is refused for it.
abbrev pub IsAnsweredBy : LookAt → LookState → HandLook → Option (List LookUrl) → ServedConnection ProxyServed → Type 0
IsAnsweredBy at state hand None one = IsRefusedLook hand one ⊎ ((one.server.fate ≡ Unanswered) × (hand.fresh ≡ true) × IsNotLookedUp at hand)
IsAnsweredBy at state hand (Some urls) one =
    IsRefusedLook hand one ⊎ (IsFateOf at.desk state.desk urls one.server.fate × MayNotWait at state hand urls)

pub record MayAnswer (at : LookAt) (state : LookState) (one : ServedConnection ProxyServed) (part : LinePart) : Type 0 where
  pub hand : HandLook
  pub is : state.hand ≡ Some hand
  pub number : one.number ≡ hand.number
  pub by : IsAnsweredBy at state hand hand.urls one
  pub told : IsServedPart one part

-- ---- finds

-- A find may begin: none is open, somebody waits, and its moment has come.
pub record IsFindDue (at : LookAt) (state : LookState) : Type 0 where
  pub left : HasNoLookLeft state
  pub none_open : state.find_open ≡ None
  pub some_wait : state.waiting ≢ []
  pub may : may_send_at (next_find_waits at state) at.now ≡ true

-- It asks for exactly the open hits of those who wait, in their order, of as many URLs as have no more prefixes together than one request may
-- have, and carries the states of the lists.
pub record MayBeginAsking (at : LookAt) (state : LookState) (find : StartedAsking) : Type 0 where
  pub due : IsFindDue at state
  pub states : find.states ≡ tokens_of at.lists
  pub looks : List Looks
  pub of_waiting : AreLooksOf at.desk state.desk (open_of state.waiting) looks
  pub asks : AreTogether looks (record { count = find.count; asked = find.asked })

-- Memory was refused for a find that was to be begun, or that was open; or no find is open and the run comes to its end.
abbrev pub MayGoWithout : LookAt → LookState → GoesBy → List DeskEvent → Type 0
MayGoWithout at state (ByFind one) more = ⊥
MayGoWithout at state ByKept more =
    (IsFindDue at state × ((one : BrokenFind) × (more ≡ Stopped one ∷ [])))
    ⊎ ((is_some state.find_open ≡ true) × ((one : BrokenFind) × (more ≡ Stopped one ∷ Forgot ∷ [])))
    ⊎ ((at.ending ≡ true) × (state.find_open ≡ None) × (more ≡ []))
MayGoWithout at state ByNothing more = IsFindDue at state × (more ≡ [])

-- The find that is over is the one that was open.
pub record MayEndAsking (state : LookState) (one : MadeFind) (part : LinePart) : Type 0 where
  pub left : HasNoLookLeft state
  pub find : StartedAsking
  pub is : state.find_open ≡ Some find
  pub states : one.states ≡ find.states
  pub asked : one.asked ≡ find.asked
  pub told : IsLinePart (line_of_find state one) part

-- ---- when a step may come

abbrev pub MayLookEventCome : LookAt → LookState → LookEvent → Type 0
MayLookEventCome at state (Taken pieces received) =
    HasNoLookLeft state × ((left rest : Option (List (List ℕ))) × IfTold left (Some pieces) × Hears received left rest)
MayLookEventCome at state (LookedUp urls more) = MayLookUp at state urls more
MayLookEventCome at state (FindBegan find) = MayBeginAsking at state find
MayLookEventCome at state (FindGone by more) = HasNoLookLeft state × MayGoWithout at state by more
MayLookEventCome at state (FindEnded one part) = MayEndAsking state one part
MayLookEventCome at state (SettledFirst urls more) = MaySettleFirst at state urls more
MayLookEventCome at state ReleasedFirst = MayReleaseFirst state
MayLookEventCome at state PutOff = MayWaitOn at state
MayLookEventCome at state (Answered one part) = MayAnswer at state one part
MayLookEventCome at state (CountsTold part) =
    HasNoLookLeft state × (at.ending ≡ true) × (state.waiting ≡ []) × (state.counted ≡ false)
    × IsLinePart (counts_line (length state.taken) state.waited state.finds) part

-- each of some events, of which the newest stands first, may come after those before it
abbrev pub MayAllLookEventsCome : LookAt → LookState → List LookEvent → Type 0
MayAllLookEventsCome at state [] = ⊤
MayAllLookEventsCome at state (one ∷ earlier) = MayLookEventCome at (after_look_events state earlier) one × MayAllLookEventsCome at state earlier
