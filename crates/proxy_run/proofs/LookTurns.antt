-- A run with some more steps of its look-ups.
use Rattle.std.proofs.Common.{◌≡◌, ℕ, List, [], ◌∷◌, true, Option, Some, None, map, refl, sym, ap, ◌∙◌, subst}
use Rattle.std.proofs.lemmas.List.Elements.{All-head, All-tail}
use Rattle.std.specs.Prelude.{◌++◌, All, is_some}
use Rattle.find_desk.specs.declared.desk.OpenDeskFind.{OpenDeskFind}
use Rattle.held_connections.specs.Held.{HeardView, WaitingView}
use Rattle.proxy_looks.specs.declared.urls.LookUrl.{LookUrl}
use Rattle.proxy_run.specs.Allowed.{MayAllProxyEventsCome, MayLookInTurn, proxy_look_at}
use Rattle.proxy_run.specs.Events.{ProxyEvent, after_proxy_events, phase_after}
use Rattle.proxy_run.specs.Events.ProxyEvent.{LookDone}
use Rattle.proxy_run.specs.LookAllowed.{MayAllLookEventsCome, MayLookEventCome}
use Rattle.proxy_run.specs.LookEvents.{LinePart, LookEvent, after_look_event, after_look_events, stop_after_part}
use Rattle.proxy_run.specs.LookEvents.LinePart.{Written, Broken}
use Rattle.proxy_run.specs.LookEvents.LookEvent.{Taken, LookedUp, FindBegan, FindGone, FindEnded, SettledFirst, ReleasedFirst, PutOff, Answered, CountsTold}
use Rattle.proxy_run.specs.LookSoFar.{HasOutputFailed, HoldLooksSo, IsAskingOf, IsHandOf, LookOutside, LookOwn, look_of}
use Rattle.proxy_run.specs.LookState.{HandLook, HeldLook, LookState, StartedAsking}
use Rattle.proxy_run.specs.LookSteps.{IsSettlingLook, KeepsDoor}
use Rattle.proxy_run.specs.SoFar.{IsProxySo, ProxyOutside, ProxyOwn, ProxyStart, proxy_looks_start}
use Rattle.proxy_run.specs.State.{ProxyFirst, ProxyPhase, ProxyState, before_proxy}
use Rattle.proxy_run.specs.declared.plan.ProxyPlan.{ProxyPlan}
use Rattle.proxy_run.specs.declared.stop.ProxyStop.{ProxyStop}
use Rattle.proxy_run.proofs.Facts.{has_cause}
use Rattle.sb_outside.specs.Outside.{IfTold}
use Rattle.url_checker.specs.declared.looking.Looks.{Looks}

-- ---- what a step leaves

pub phase_stays : (one : LookEvent) (phase : ProxyPhase) → IsSettlingLook one → phase_after one phase ≡ phase
phase_stays (Taken pieces received) phase is = absurd is
phase_stays (LookedUp urls more) phase is = refl
phase_stays (FindBegan find) phase is = refl
phase_stays (FindGone by more) phase is = refl
phase_stays (FindEnded one part) phase is = refl
phase_stays (SettledFirst urls more) phase is = refl
phase_stays ReleasedFirst phase is = refl
phase_stays PutOff phase is = refl
phase_stays (Answered one part) phase is = refl
phase_stays (CountsTold part) phase is = absurd is

may_stay : (plan : ProxyPlan) (state : ProxyState) (one : LookEvent) → IsSettlingLook one → MayLookInTurn plan state one
may_stay plan state (Taken pieces received) is = absurd is
may_stay plan state (LookedUp urls more) is = tt
may_stay plan state (FindBegan find) is = absurd is
may_stay plan state (FindGone by more) is = tt
may_stay plan state (FindEnded one part) is = tt
may_stay plan state (SettledFirst urls more) is = tt
may_stay plan state ReleasedFirst is = tt
may_stay plan state PutOff is = tt
may_stay plan state (Answered one part) is = tt
may_stay plan state (CountsTold part) is = tt

part_stops : (stop : Option ProxyStop) (part : LinePart) → is_some stop ≡ true → is_some (stop_after_part stop part) ≡ true
part_stops stop Written is = is
part_stops stop (Broken why front) is = has_cause stop why

pub stop_stays : (state : LookState) (one : LookEvent) → is_some state.stop ≡ true → is_some (after_look_event state one).stop ≡ true
stop_stays state (Taken pieces received) is = is
stop_stays state (LookedUp urls more) is = is
stop_stays state (FindBegan find) is = is
stop_stays state (FindGone by more) is = is
stop_stays state (FindEnded one part) is = part_stops state.stop part is
stop_stays state (SettledFirst urls more) is = is
stop_stays state ReleasedFirst is = is
stop_stays state PutOff is = is
stop_stays state (Answered one part) is = part_stops state.stop part is
stop_stays state (CountsTold part) is = part_stops state.stop part is

pub stops_stay : (state : LookState) (events : List LookEvent) → is_some state.stop ≡ true → is_some (after_look_events state events).stop ≡ true
stops_stay state [] is = is
stops_stay state (one ∷ earlier) is = stop_stays (after_look_events state earlier) one (stops_stay state earlier is)

counted_stays : (state : LookState) (one : LookEvent) → IsSettlingLook one → (after_look_event state one).counted ≡ state.counted
counted_stays state (Taken pieces received) is = refl
counted_stays state (LookedUp urls more) is = refl
counted_stays state (FindBegan find) is = refl
counted_stays state (FindGone by more) is = refl
counted_stays state (FindEnded one part) is = refl
counted_stays state (SettledFirst urls more) is = refl
counted_stays state ReleasedFirst is = refl
counted_stays state PutOff is = refl
counted_stays state (Answered one part) is = refl
counted_stays state (CountsTold part) is = absurd is

pub counts_stay : (state : LookState) (events : List LookEvent) → All IsSettlingLook events → (after_look_events state events).counted ≡ state.counted
counts_stay state [] all = refl
counts_stay state (one ∷ earlier) all =
    counted_stays (after_look_events state earlier) one (All-head IsSettlingLook one earlier all) ∙ counts_stay state earlier (All-tail IsSettlingLook one earlier all)

-- ---- the steps of the look-ups as steps of the run

pub done_looks : List LookEvent → List ProxyEvent → List ProxyEvent
done_looks [] earlier = earlier
done_looks (one ∷ more) earlier = LookDone one ∷ done_looks more earlier

looks_phase : ProxyState → LookState → ProxyPhase → ProxyState
looks_phase st looks phase = record st { looks = looks; phase = phase }

module _ (plan : ProxyPlan) (first : ProxyFirst) (earlier : List ProxyEvent) where
  abbrev st : ProxyState
  st = after_proxy_events first before_proxy earlier

  pub looks_lead : (events : List LookEvent) → All IsSettlingLook events
      → after_proxy_events first before_proxy (done_looks events earlier) ≡ record st { looks = after_look_events st.looks events }
  unfolding done_looks looks_phase
  looks_lead [] all = refl
  looks_lead (one ∷ more) all =
      ap (λ (s : ProxyState). record s { looks = after_look_event s.looks one; phase = phase_after one s.phase }) (looks_lead more (All-tail IsSettlingLook one more all))
      ∙ ap (looks_phase st (after_look_event (after_look_events st.looks more) one)) (phase_stays one st.phase (All-head IsSettlingLook one more all))

  pub looks_may : (events : List LookEvent) → All IsSettlingLook events → MayAllLookEventsCome (proxy_look_at plan first st) st.looks events
      → MayAllProxyEventsCome plan first before_proxy earlier → MayAllProxyEventsCome plan first before_proxy (done_looks events earlier)
  unfolding done_looks
  looks_may [] all may was = was
  looks_may (one ∷ more) all may was = (
    subst (λ (s : ProxyState). MayLookEventCome (proxy_look_at plan first s) s.looks one × MayLookInTurn plan s one) (sym (looks_lead more (All-tail IsSettlingLook one more all)))
        (may.0, may_stay plan (record st { looks = after_look_events st.looks more }) one (All-head IsSettlingLook one more all)),
    looks_may more (All-tail IsSettlingLook one more all) may.1 was,
  )

-- ---- one more moment of the look-ups

pub looks_go : (plan : ProxyPlan) (start : ProxyStart) (st : ProxyState) (own : ProxyOwn) (seen : ProxyOutside) → IsProxySo plan start st own seen
    → (looks : LookState) (phase : ProxyPhase) (held : LookOwn) (outside : LookOutside) → HoldLooksSo plan (proxy_looks_start start) looks held outside
    → (is_some st.looks.stop ≡ true → is_some looks.stop ≡ true) → KeepsDoor seen.looks outside
    → IsProxySo plan start (record st { looks = looks; phase = phase }) (record own { looks = held }) (record seen { looks = outside })
looks_go plan start st own seen so looks phase held outside hold stops keeps = record {
  round_open = so.round_open;
  more = so.more;
  halts = λ h. let halted = so.halts h in (stops halted.0, halted.1);
  no_more = so.no_more;
  rounds = so.rounds;
  looks = hold;
  readings = so.readings;
  none_come = λ e. subst (λ (c : Option (List (List (List ℕ)))). IfTold c (Some [])) (sym keeps.coming) (so.none_come e);
  keeper_faults = so.keeper_faults;
  door_faults = subst (λ (n : ℕ). HasOutputFailed st.door_failed start.outside.looks.door_faults n) (sym keeps.faults) so.door_faults;
  same_updates = so.same_updates;
}

-- ---- what the program's values tell

pub none_asked : (opened : Option OpenDeskFind) (asked : ℕ) (looks : List Looks) (find : Option StartedAsking) → IsAskingOf opened asked looks find → opened ≡ None → find ≡ None
none_asked None asked looks find is e = is
none_asked (Some session) asked looks find is e = cc

pub some_asked : (opened : Option OpenDeskFind) (asked : ℕ) (looks : List Looks) (find : Option StartedAsking) → IsAskingOf opened asked looks find → is_some opened ≡ true → is_some find ≡ true
some_asked None asked looks find is e = cc
some_asked (Some session) asked looks find is e = ap is_some is.0

pub none_in_hand_of : (heard : Option HeardView) (hand : Option HandLook) → IsHandOf heard hand → hand ≡ None → heard ≡ None
none_in_hand_of None hand is e = refl
none_in_hand_of (Some heard) None is e = absurd is
none_in_hand_of (Some heard) (Some hand) is e = cc

nobody_of : (unsettled waiting : List HeldLook) → [] ≡ unsettled ++ waiting → waiting ≡ []
nobody_of [] waiting e = sym e
nobody_of (one ∷ more) waiting e = cc

pub nobody_waits : (waiting : List (WaitingView (List LookUrl))) (unsettled held : List HeldLook) → map look_of waiting ≡ unsettled ++ held → waiting ≡ [] → held ≡ []
nobody_waits waiting unsettled held is none = nobody_of unsettled held (sym (ap (map look_of) none) ∙ is)
