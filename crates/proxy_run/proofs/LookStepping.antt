-- Steps that come one after the other, and what further events at the desk leave.
use Rattle.std.proofs.Common.{◌≡◌, ◌≤◌, ℕ, List, [], ◌∷◌, ◌++◌, Option, Some, None, refl, sym, ap, ◌∙◌, subst, append_assoc, drop, length}
use Rattle.std.proofs.lemmas.List.Elements.{All-append}
use Rattle.std.specs.Prelude.{All, option_map}
use Rattle.find_desk.specs.Desk.{DeskStart}
use Rattle.find_desk.specs.Events.{DeskEvent, Found, MadeFind}
use Rattle.held_connections.specs.Held.{HeardView}
use Rattle.proxy_looks.specs.Settled.{AreLooksOf}
use Rattle.proxy_looks.specs.declared.urls.LookUrl.{LookUrl}
use Rattle.proxy_run.specs.LookAllowed.{LookAt, MayAllLookEventsCome, MayLookEventCome}
use Rattle.proxy_run.specs.LookEvents.{LookEvent, after_look_event, after_look_events}
use Rattle.proxy_run.specs.LookSoFar.{HoldLooksSo, IsHandOf, IsPastOf, LookOutside, LookOwn, LookStart, PastLooks, WereLookedBefore}
use Rattle.proxy_run.specs.LookState.{GoesBy, HandLook, HeldLook, LookState, open_of}
use Rattle.proxy_run.specs.LookState.GoesBy.{ByFind, ByKept, ByNothing}
use Rattle.proxy_run.specs.LookSteps.{IsSettlingLook, KeepsDoor, LooksGoTo}
use Rattle.proxy_run.proofs.LookFacts.{looks_stay_more}

-- ---- one after the other

pub after_more : (state : LookState) (events earlier : List LookEvent) → after_look_events state (events ++ earlier) ≡ after_look_events (after_look_events state earlier) events
after_more state [] earlier = refl
after_more state (one ∷ events) earlier = ap (λ (s : LookState). after_look_event s one) (after_more state events earlier)

pub may_more : (at : LookAt) (state : LookState) (events earlier : List LookEvent) → MayAllLookEventsCome at (after_look_events state earlier) events → MayAllLookEventsCome at state earlier
    → MayAllLookEventsCome at state (events ++ earlier)
may_more at state [] earlier may before = before
may_more at state (one ∷ events) earlier may before =
    (subst (λ (s : LookState). MayLookEventCome at s one) (sym (after_more state events earlier)) may.0, may_more at state events earlier may.1 before)

-- what comes after some steps comes after those before them
pub goes_then : (at : LookAt) (start : LookStart) (state : LookState) (Ends : LookState → Type 0) (own : LookOwn) (seen : LookOutside) (earlier : List LookEvent) → All IsSettlingLook earlier
    → MayAllLookEventsCome at state earlier → LooksGoTo at start (after_look_events state earlier) Ends own seen → LooksGoTo at start state Ends own seen
goes_then at start state Ends own seen earlier kinds may goes = record {
  events = goes.events ++ earlier;
  may = may_more at state goes.events earlier goes.may may;
  kinds = All-append IsSettlingLook goes.events earlier goes.kinds kinds;
  so = subst (λ (s : LookState). HoldLooksSo at.plan start s own seen) (sym (after_more state goes.events earlier)) goes.so;
  ends = subst Ends (sym (after_more state goes.events earlier)) goes.ends;
}

pub goes_ends : (at : LookAt) (start : LookStart) (state : LookState) (Ends Ends' : LookState → Type 0) (own : LookOwn) (seen : LookOutside)
    → ((s : LookState) → Ends s → Ends' s) → LooksGoTo at start state Ends own seen → LooksGoTo at start state Ends' own seen
goes_ends at start state Ends Ends' own seen turns goes = record { events = goes.events; may = goes.may; kinds = goes.kinds; so = goes.so; ends = turns (after_look_events state goes.events) goes.ends }

pub door_kept_on : (first between last : LookOutside) → KeepsDoor between last → KeepsDoor first between → KeepsDoor first last
door_kept_on first between last second earlier = record { coming = second.coming ∙ earlier.coming; faults = second.faults ∙ earlier.faults }

-- ---- more events at the desk

looked_before_stays : (desk : DeskStart) (events more : List DeskEvent) (unsettled : List HeldLook) (asked : ℕ) (past : PastLooks) (one : MadeFind)
    → WereLookedBefore desk events unsettled asked past one → WereLookedBefore desk (events ++ more) unsettled asked past one
looked_before_stays desk events more unsettled asked past one is = record {
  ended = is.ended;
  is = is.is;
  ends = is.ends;
  before = is.before;
  after = is.after ++ more;
  splits = ap (λ (all : List DeskEvent). all ++ more) is.splits ∙ append_assoc is.before (Found one ∷ is.after) more;
  looks = is.looks;
  within = is.within;
  asked_for = is.asked_for;
  few = is.few;
  count = is.count;
}

pub past_stays : (desk : DeskStart) (events more : List DeskEvent) (unsettled : List HeldLook) (asked : ℕ) (past : PastLooks) (by : GoesBy)
    → IsPastOf desk events unsettled asked past by → IsPastOf desk (events ++ more) unsettled asked past by
past_stays desk events more [] asked past by is = tt
past_stays desk events more (first ∷ rest) asked past (ByFind one) is = looked_before_stays desk events more (first ∷ rest) asked past one is
past_stays desk events more (first ∷ rest) asked past ByKept is = (looks_stay_more desk events more (open_of (first ∷ rest)) (drop past.place past.looks) is.0, is.1)
past_stays desk events more (first ∷ rest) asked past ByNothing is = is

-- nobody is to be settled
pub nobody_past : (desk : DeskStart) (events : List DeskEvent) (unsettled : List HeldLook) (asked : ℕ) (past : PastLooks) (by : GoesBy) → unsettled ≡ [] → IsPastOf desk events unsettled asked past by
nobody_past desk events [] asked past by none = tt
nobody_past desk events (first ∷ rest) asked past by none = cc

pub past_by_find : (desk : DeskStart) (events : List DeskEvent) (unsettled : List HeldLook) (asked : ℕ) (past : PastLooks) (one : MadeFind)
    → WereLookedBefore desk events unsettled asked past one → IsPastOf desk events unsettled asked past (ByFind one)
past_by_find desk events [] asked past one is = tt
past_by_find desk events (first ∷ rest) asked past one is = is

pub past_by_kept : (desk : DeskStart) (events : List DeskEvent) (unsettled : List HeldLook) (asked : ℕ) (past : PastLooks)
    → AreLooksOf desk events (open_of unsettled) (drop past.place past.looks) → past.place ≤ length past.looks → IsPastOf desk events unsettled asked past ByKept
past_by_kept desk events [] asked past looks within = tt
past_by_kept desk events (first ∷ rest) asked past looks within = (looks, within)

pub past_by_nothing : (desk : DeskStart) (events : List DeskEvent) (unsettled : List HeldLook) (asked : ℕ) (past : PastLooks) → IsPastOf desk events unsettled asked past ByNothing
past_by_nothing desk events [] asked past = tt
past_by_nothing desk events (first ∷ rest) asked past = tt

-- ---- the connection in hand

pub hand_known : (heard : Option HeardView) (hand : Option HandLook) (urls : Option (List LookUrl)) → IsHandOf heard hand → IsHandOf heard (option_map (λ (h : HandLook). record h { urls = urls }) hand)
hand_known None None urls are = are
hand_known (Some heard) (Some hand) urls are = are
hand_known None (Some hand) urls are = absurd are
hand_known (Some heard) None urls are = absurd are
