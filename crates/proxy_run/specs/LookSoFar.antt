-- What the objects outside tell of the look-ups that a proxy holds.
use Rattle.std.specs.Prelude.{◌≡◌, ◌≤◌, ◌-◌, ℕ, Bool, true, false, List, [], ◌++◌, ◌∷◌, All, drop, take, length, map, Option, Some, None, ⊤}
use Rattle.client_line.specs.Lines.{LineView}
use Rattle.find_desk.specs.Desk.{DeskSeen, DeskStart, HasKeptDesk, desk_start}
use Rattle.find_desk.specs.Events.{DeskEvent, Found, MadeFind}
use Rattle.find_desk.specs.Verdicts.{HasAskedFor, IsEndOf}
use Rattle.find_desk.specs.declared.desk.EndedFind.{EndedFind}
use Rattle.find_desk.specs.declared.desk.OpenDeskFind.{OpenDeskFind}
use Rattle.held_connections.specs.Held.{HeardView, HeldView, HoldsConnections, WaitingView}
use Rattle.held_connections.specs.Over.{DoorView, RightOf, right_by}
use Rattle.proxy_looks.specs.Settled.{AreLooksOf}
use Rattle.proxy_looks.specs.Urls.{IsAskableUrl}
use Rattle.proxy_looks.specs.declared.urls.LookUrl.{LookUrl}
use Rattle.proxy_run.specs.LookState.{GoesBy, HandLook, HeldLook, LookState, StartedAsking, open_of}
use Rattle.proxy_run.specs.LookState.GoesBy.{ByFind, ByKept, ByNothing}
use Rattle.proxy_run.specs.declared.plan.ProxyPlan.{ProxyPlan}
use Rattle.proxy_run.specs.declared.stop.ProxyStop.{ProxyStop}
use Rattle.proxy_serving.specs.Response.{IsProxyResponseAt, ProxyServed, proxy_routes}
use Rattle.sb_outside.specs.Outside.{Rose, appended}
use Rattle.url_checker.specs.declared.looking.Looks.{Looks}

-- ---- the program's own values, and what is seen outside

-- A proxy's own values of its look-ups: its desk and its connections; the looks of those who wait, and of those who are to be settled, of which
-- the first of them begin at a place; how many are to be settled; for how many looks a find asks, and the find that is over; the counts, and
-- what ended the run.
pub record LookOwn : Type 0 where
  pub desk : DeskSeen
  pub connections : HeldView (List LookUrl)
  pub looks : List Looks
  pub past : List Looks
  pub place : ℕ
  pub left : ℕ
  pub asked : ℕ
  pub ended : Option EndedFind
  pub waited : ℕ
  pub finds : ℕ
  pub stop : Option ProxyStop

-- What stands outside, as it is seen: the line of the finds, what was written, the door, and how often the output and the door failed.
pub record LookOutside : Type 0 where
  pub finds : LineView
  pub output : Option (List ℕ)
  pub door : DoorView
  pub output_faults : ℕ
  pub door_faults : ℕ

-- What the look-ups began with: what the desk did, and what stood outside then.
pub record LookStart : Type 0 where
  pub desk : DeskStart
  pub outside : LookOutside

-- the beginning of look-ups that are now as they then were
abbrev pub look_start_at : LookOwn → LookOutside → LookStart
look_start_at own seen = record { desk = desk_start own.desk seen.finds; outside = seen }

-- what is right of a proxy's responses
abbrev pub ProxyRight : RightOf ProxyServed
ProxyRight = right_by proxy_routes (λ before after place. IsProxyResponseAt before.fate place)

-- ---- the program's own values are those to which the steps led

abbrev pub look_of : WaitingView (List LookUrl) → HeldLook
look_of one = record { number = one.heard.number; received = one.heard.received; urls = one.wait }

-- The find that is open is the desk's, and asks for all open hits of the first of these looks, so many of them.
abbrev pub IsAskingOf : Option OpenDeskFind → ℕ → List Looks → Option StartedAsking → Type 0
IsAskingOf None asked looks find = find ≡ None
IsAskingOf (Some session) asked looks find =
    (find ≡ Some (record { states = session.states; asked = session.asked; count = asked; at = session.find.opening.begun }))
    × All (HasAskedFor session.asked) (take asked looks) × (asked ≤ length looks)

-- The connection in hand is that one.
abbrev pub IsHandOf : Option HeardView → Option HandLook → Type 0
IsHandOf None None = ⊤
IsHandOf (Some heard) (Some hand) = (hand.number ≡ heard.number) × (hand.received ≡ heard.received)
IsHandOf None (Some hand) = ⊥
IsHandOf (Some heard) None = ⊥

-- The looks of those who were to be settled, the place of the first that is left, the find by which they go if one is over, and for how many it
-- asked.
pub record PastLooks : Type 0 where
  pub looks : List Looks
  pub place : ℕ
  pub ended : Option EndedFind
  pub asked : ℕ

abbrev pub past_looks : LookOwn → PastLooks
past_looks own = record { looks = own.past; place = own.place; ended = own.ended; asked = own.asked }

-- The find by which those go who are to be settled was ended so. It asked for the first of their looks, which were made before it.
pub record WereLookedBefore (desk : DeskStart) (events : List DeskEvent) (unsettled : List HeldLook) (asked : ℕ) (past : PastLooks) (one : MadeFind) : Type 0 where
  pub ended : EndedFind
  pub is : past.ended ≡ Some ended
  pub ends : IsEndOf one ended
  pub before : List DeskEvent
  pub after : List DeskEvent
  pub splits : events ≡ before ++ Found one ∷ after
  pub looks : AreLooksOf desk before (open_of unsettled) (drop past.place past.looks)
  pub within : past.place ≤ length past.looks
  pub asked_for : All (HasAskedFor ended.asked) (take past.asked past.looks)
  pub few : past.asked ≤ length past.looks
  pub count : asked ≡ past.asked - past.place

-- Those who are to be settled, by what they go by.
abbrev pub IsPastOf : DeskStart → List DeskEvent → List HeldLook → ℕ → PastLooks → GoesBy → Type 0
IsPastOf desk events [] asked past by = ⊤
IsPastOf desk events (first ∷ rest) asked past (ByFind one) = WereLookedBefore desk events (first ∷ rest) asked past one
IsPastOf desk events (first ∷ rest) asked past ByKept =
    AreLooksOf desk events (open_of (first ∷ rest)) (drop past.place past.looks) × (past.place ≤ length past.looks)
IsPastOf desk events (first ∷ rest) asked past ByNothing = ⊤

pub record AreLookValues (desk : DeskStart) (state : LookState) (own : LookOwn) : Type 0 where
  pub find : IsAskingOf own.desk.opened own.asked own.looks state.find_open
  pub waiting : map look_of own.connections.waiting ≡ state.unsettled ++ state.waiting
  pub left : own.left ≡ length state.unsettled
  pub hand : IsHandOf own.connections.hand state.hand
  pub looks : AreLooksOf desk state.desk (open_of state.waiting) own.looks
  pub askable : All (λ (one : HeldLook). All IsAskableUrl one.urls) (state.unsettled ++ state.waiting)
  pub past : IsPastOf desk state.desk state.unsettled state.asked (past_looks own) state.by
  pub waited : own.waited ≡ state.waited
  pub finds : own.finds ≡ state.finds
  pub stop : own.stop ≡ state.stop

-- It failed since, or it did not.
abbrev pub HasOutputFailed : Bool → ℕ → ℕ → Type 0
HasOutputFailed true before now = Rose before now
HasOutputFailed false before now = now ≡ before

-- The look-ups that began so have come to this state: each object tells its part of it.
pub record HoldLooksSo (plan : ProxyPlan) (start : LookStart) (state : LookState) (own : LookOwn) (seen : LookOutside) : Type 0 where
  pub are : AreLookValues start.desk state own
  pub desk : HasKeptDesk plan.updates.target plan.updates.need_digest start.desk state.desk own.desk seen.finds
  pub connections : HoldsConnections ProxyRight start.outside.door state.taken state.over own.connections seen.door
  pub printed : seen.output ≡ appended start.outside.output state.printed
  pub faults : HasOutputFailed state.output_failed start.outside.output_faults seen.output_faults
  pub same_finds : seen.finds.objects ≡ start.outside.finds.objects
