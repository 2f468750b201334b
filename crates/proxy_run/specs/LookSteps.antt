-- What the steps of the look-ups that a proxy holds keep to.
use Rattle.std.specs.Prelude.{◌≡◌, ◌≢◌, ◌⊎◌, ◌<◌, ◌≤◌, ◌+◌, ◌-◌, ◌^◌, ℕ, min, Bool, false, true, List, [], All, length, take, Option, None, Some, Result, Ok, Err, is_some, ⊤}
use Rattle.client_line.specs.Lines.{LineView}
use Rattle.find_desk.specs.Desk.{DeskSeen, DeskStart, HasKeptDesk}
use Rattle.find_desk.specs.Events.{DeskEvent, MadeFind}
use Rattle.find_desk.specs.Verdicts.{HasAskedFor}
use Rattle.find_desk.specs.declared.desk.EndedFind.{EndedFind}
use Rattle.held_connections.specs.Held.{waiting_limit}
use Rattle.held_connections.specs.Over.{ServedConnection}
use Rattle.http_edge.specs.declared.faults.RequestFault.{RequestFault}
use Rattle.http_edge.specs.declared.messages.HttpRequest.{HttpRequest}
use Rattle.proxy_looks.specs.Fates.{is_one_left_open}
use Rattle.proxy_looks.specs.Settled.{AreLooksOf}
use Rattle.proxy_looks.specs.Urls.{open_hits, IsAskableUrl}
use Rattle.proxy_looks.specs.declared.urls.LookUrl.{LookUrl}
use Rattle.proxy_run.specs.LookAllowed.{HasNoLookLeft, IsLinePart, IsRefusedLook, IsServedPart, LookAt, MayAllLookEventsCome, MayLookEventCome}
use Rattle.proxy_run.specs.LookEvents.{LinePart, LookEvent, after_look_event, after_look_events, is_broken_by_output, part_written, stop_after_part}
use Rattle.proxy_run.specs.LookEvents.LookEvent.{Answered, CountsTold, FindBegan, Taken}
use Rattle.proxy_run.specs.LookSoFar.{HasOutputFailed, HoldLooksSo, LookOutside, LookOwn, LookStart}
use Rattle.proxy_run.specs.LookState.{HandLook, LookState, StartedAsking}
use Rattle.proxy_run.specs.LookState.GoesBy.{ByFind, ByKept, ByNothing}
use Rattle.proxy_run.specs.declared.plan.ProxyPlan.{ProxyPlan}
use Rattle.proxy_run.specs.declared.stop.ProxyStop.{ProxyStop}
use Rattle.proxy_run.specs.declared.stop.ProxyStop.TheVariants as stop
use Rattle.proxy_serving.specs.Response.{ProxyServed}
use Rattle.proxy_serving.specs.declared.fate.LookFate.{LookFate}
use Rattle.sb_model.specs.declared.time.Moment.{Moment}
use Rattle.sb_outside.specs.Outside.{Rose, appended}
use Rattle.sb_outside.specs.Writing.{HasFront}
use Rattle.url_checker.specs.declared.looking.Looks.{Looks}
use Rattle.wait_rules.specs.Waits.{may_send_at}

-- ---- steps

-- A step by which look-ups are settled: no connection is taken by it, no find is begun, and no counts are told.
abbrev pub IsSettlingLook : LookEvent → Type 0
IsSettlingLook (Taken pieces received) = ⊥
IsSettlingLook (FindBegan find) = ⊥
IsSettlingLook (CountsTold part) = ⊥
IsSettlingLook other = ⊤

-- From a state some further events happened, each when it might, and the look-ups have come to what they lead to, which is so.
pub record LooksGoTo (at : LookAt) (start : LookStart) (state : LookState) (Ends : LookState → Type 0) (own : LookOwn) (seen : LookOutside) : Type 0 where
  pub events : List LookEvent
  pub may : MayAllLookEventsCome at state events
  pub kinds : All IsSettlingLook events
  pub so : HoldLooksSo at.plan start (after_look_events state events) own seen
  pub ends : Ends (after_look_events state events)

-- A find was begun; or none was, and nothing is left over.
abbrev pub LooksBegin : LookAt → LookStart → LookState → LookOwn → LookOutside → Type 0
LooksBegin at start state own seen =
    ((find : StartedAsking) × MayLookEventCome at state (FindBegan find) × HoldLooksSo at.plan start (after_look_event state (FindBegan find)) own seen)
    ⊎ LooksGoTo at start state HasNoLookLeft own seen

-- What the door has to give and how often it failed stays.
pub record KeepsDoor (seen seen' : LookOutside) : Type 0 where
  pub coming : seen'.door.coming ≡ seen.door.coming
  pub faults : seen'.door_faults ≡ seen.door_faults

-- Somebody is to be settled by a find, or nobody is left for whom it was made.
pub record IsToSettle (state : LookState) : Type 0 where
  pub none_in_hand : state.hand ≡ None
  pub one : MadeFind
  pub by : state.by ≡ ByFind one

-- Who is to be settled is answered by what is known.
pub record IsReleasing (state : LookState) : Type 0 where
  pub none_in_hand : state.hand ≡ None
  pub by : state.by ≡ ByKept

-- A find that is over was told, and those who waited for it are to be settled; or memory was refused for it, and nobody waits.
abbrev pub HasEndedAsking : LookOwn → LookState → Type 0
HasEndedAsking own state =
    ((is_some own.ended ≡ true) × IsToSettle state)
    ⊎ ((own.ended ≡ None) × HasNoLookLeft state)

-- Nobody waits, a find is open, or the next may not begin yet.
abbrev pub IsNoFindDue : Moment → LookOwn → Type 0
IsNoFindDue now own =
    (own.connections.waiting ≡ []) ⊎ (is_some own.desk.opened ≡ true) ⊎ (may_send_at own.desk.waits now ≡ false)

-- ---- one connection

-- Nothing is in hand any more, and who is to be settled stays, by what they go.
pub record HasSettledHand (before : LookState) (state : LookState) : Type 0 where
  pub none_in_hand : state.hand ≡ None
  pub unsettled : state.unsettled ≡ before.unsettled
  pub by : state.by ≡ before.by
  pub find : state.find_open ≡ before.find_open

-- A line was printed, or a front of it: this is what it ends, and the output failed so.
pub record PrintsPart (line : List ℕ) (part : LinePart) (stop stop' : Option ProxyStop) (output output' : Option (List ℕ)) (faults faults' : ℕ) : Type 0 where
  pub is : IsLinePart line part
  pub written : output' ≡ appended output (part_written line part)
  pub ends : stop' ≡ stop_after_part stop part
  pub failed : HasOutputFailed (is_broken_by_output part) faults faults'

-- The connection in hand was answered, of which this is so, was given back and told.
pub record GivesLook (plan : ProxyPlan) (start : LookStart) (state : LookState) (hand : HandLook) (Says : ServedConnection ProxyServed → Type 0)
    (own : LookOwn) (seen : LookOutside) : Type 0 where
  pub one : ServedConnection ProxyServed
  pub part : LinePart
  pub number : one.number ≡ hand.number
  pub says : Says one
  pub told : IsServedPart one part
  pub so : HoldLooksSo plan start (after_look_event state (Answered one part)) own seen

-- it was answered by this fate
abbrev pub HasFate : LookFate → ServedConnection ProxyServed → Type 0
HasFate fate one = one.server.fate ≡ fate

-- it was answered by this fate, or refused if memory was
abbrev pub HasFateOrRefused : {E : Type 0} → HandLook → Result LookFate E → ServedConnection ProxyServed → Type 0
HasFateOrRefused hand (Ok fate) one = HasFate fate one
HasFateOrRefused hand (Err why) one = IsRefusedLook hand one

-- ---- what a step needs to know

-- A line is printed, and this is what came of it: it is written whole, a front of it is, or memory was refused for it.
abbrev pub PrintsFor : Result (Unit {0}) ProxyStop → List ℕ → (output output' : Option (List ℕ)) → (faults faults' : ℕ) → Type 0
PrintsFor (Ok done) line output output' faults faults' = (output' ≡ appended output line) × (faults' ≡ faults)
PrintsFor (Err stop.WriteFault) line output output' faults faults' = HasFront output output' line × Rose faults faults'
PrintsFor (Err stop.OutOfMemory) line output output' faults faults' = (output' ≡ output) × (faults' ≡ faults)
PrintsFor (Err other) line output output' faults faults' = ⊥

-- Some events happened at the desk since it began.
abbrev pub IsDeskKept : ProxyPlan → DeskSeen → LineView → Type 0
IsDeskKept plan desk line =
    (start : DeskStart) × (events : List DeskEvent) × HasKeptDesk plan.updates.target plan.updates.need_digest start events desk line

-- The connection in hand was taken just now, and nothing is known of it but what was heard.
pub record IsToLookUp (state : LookState) (hand : HandLook) : Type 0 where
  pub is : state.hand ≡ Some hand
  pub fresh : hand.fresh ≡ true
  pub kept : hand.released ≡ false
  pub unknown : hand.urls ≡ None
  pub unsettled : state.unsettled ≡ []

-- The URLs of the connection in hand are known and settled so, and those that are open have these looks.
pub record IsToDecide (start : LookStart) (state : LookState) (hand : HandLook) (fresh : Bool) (urls : List LookUrl) (looks : List Looks) : Type 0 where
  pub is : state.hand ≡ Some hand
  pub known : hand.urls ≡ Some urls
  pub kept : hand.released ≡ false
  pub fresh_is : hand.fresh ≡ fresh
  pub are : AreLooksOf start.desk state.desk (open_hits urls) looks
  pub askable : All IsAskableUrl urls

-- It waits, or it does not, as the program's values tell.
pub record LooksMayWait (plan : ProxyPlan) (own : LookOwn) (now : Moment) (urls : List LookUrl) (looks : List Looks) : Type 0 where
  pub opened : looks ≢ []
  pub without_fault : is_one_left_open urls ≡ false
  pub room : length own.connections.waiting < waiting_limit
  pub comes : (is_some own.desk.opened ≡ true) ⊎ (own.desk.waits.allowed_at.0 ≤ min (now.0 + plan.patience) (2 ^ 64 - 1))

abbrev pub LooksMayNotWait : ProxyPlan → LookOwn → Moment → List LookUrl → List Looks → Type 0
LooksMayNotWait plan own now urls looks =
    (looks ≡ []) ⊎ (is_one_left_open urls ≡ true) ⊎ (length own.connections.waiting ≡ waiting_limit)
    ⊎ ((own.desk.opened ≡ None) × (min (now.0 + plan.patience) (2 ^ 64 - 1) < own.desk.waits.allowed_at.0))

-- A connection was taken that had these pieces to give, and was answered at once, or put off.
pub record LooksTake (at : LookAt) (start : LookStart) (state : LookState) (pieces : List (List ℕ)) (own : LookOwn) (seen : LookOutside) : Type 0 where
  pub received : Result HttpRequest RequestFault
  pub may : MayLookEventCome at state (Taken pieces received)
  pub goes : LooksGoTo at start (after_look_event state (Taken pieces received)) HasNoLookLeft own seen

-- The find that was ended asked for the first of some looks, so many of them.
abbrev pub IsAskedByEnded : Option EndedFind → ℕ → List Looks → Type 0
IsAskedByEnded None asked past = ⊥
IsAskedByEnded (Some ended) asked past = All (HasAskedFor ended.asked) (take asked past)

-- The first was answered by what is known.
pub record IsReleasedFrom (before state : LookState) : Type 0 where
  pub releasing : IsReleasing state
  pub find : state.find_open ≡ before.find_open
  pub waiting : state.waiting ≡ before.waiting

-- Nobody waits any more.
pub record HasGivenAllBack (state : LookState) : Type 0 where
  pub left : HasNoLookLeft state
  pub none_open : state.find_open ≡ None
  pub nobody : state.waiting ≡ []

-- Who is to be settled is refused, since memory was.
pub record IsRefusing (state : LookState) : Type 0 where
  pub none_in_hand : state.hand ≡ None
  pub by : state.by ≡ ByNothing

-- The first was refused.
pub record IsRefusingFrom (before state : LookState) : Type 0 where
  pub refusing : IsRefusing state
  pub find : state.find_open ≡ before.find_open
  pub waiting : state.waiting ≡ before.waiting
