-- Finds in the turns of a run: one that is begun, and one that is ended and settled.
use Rattle.std.proofs.Common.{◌≡◌, List, ◌∷◌, Bool, true, false, Option, None, refl, sym, ap, ◌∙◌, subst, inl, inr}
use Rattle.std.specs.Prelude.{is_some}
use Rattle.find_desk.specs.Desk.{DeskStart}
use Rattle.proxy_run.specs.Allowed.{proxy_look_at}
use Rattle.proxy_run.specs.Events.{ProxyEvent, after_proxy_events}
use Rattle.proxy_run.specs.Events.ProxyEvent.{ClockRead, LookDone}
use Rattle.proxy_run.specs.LookAllowed.{HasNoLookLeft, LookAt, look_at}
use Rattle.proxy_run.specs.LookEvents.{after_look_event, after_look_events}
use Rattle.proxy_run.specs.LookEvents.LookEvent.{FindBegan}
use Rattle.proxy_run.specs.LookSoFar.{HoldLooksSo, LookOutside, LookOwn}
use Rattle.proxy_run.specs.LookState.{LookState}
use Rattle.proxy_run.specs.LookSteps.{HasEndedAsking, IsToSettle, KeepsDoor, LooksBegin, LooksGoTo}
use Rattle.proxy_run.specs.SoFar.{IsProxySo, ProxyOutside, ProxyOwn, ProxyStart, proxy_looks_start}
use Rattle.proxy_run.specs.State.{ProxyPhase, ProxyState, before_proxy, is_finishing, proxy_lists}
use Rattle.proxy_run.specs.State.ProxyPhase.{Beginning}
use Rattle.proxy_run.specs.Steps.{ProxyAt, ProxyStandsAt, RunsProxySo, proxy_at}
use Rattle.proxy_run.specs.declared.plan.ProxyPlan.{ProxyPlan}
use Rattle.proxy_run.proofs.LookTurns.{counts_stay, done_looks, looks_go, looks_lead, looks_may, none_asked, stops_stay}
use Rattle.proxy_run.proofs.TurnSteps.{clock_goes, looks_settled}
use Rattle.sb_model.specs.declared.time.Moment.{Moment}
use Rattle.sb_outside.specs.Outside.{IfTold, with_entry}
use Rattle.update_client.specs.Held.{Held}

look_at_with : ProxyPlan → DeskStart → List Held → Moment → ProxyPhase → LookAt
look_at_with plan desk lists now phase = look_at plan desk lists now (is_finishing phase)

-- where a step of the look-ups comes, by what a caller gives
pub at_is : (plan : ProxyPlan) (start : ProxyStart) (st : ProxyState) (lists : List Held) (now : Moment) (phase : ProxyPhase) → lists ≡ proxy_lists start.first st → st.now ≡ now → st.phase ≡ phase
    → look_at plan start.first.desk lists now (is_finishing phase) ≡ proxy_look_at plan start.first st
unfolding look_at_with
at_is plan start st lists now phase are same is =
    ap (λ (ls : List Held). look_at_with plan start.first.desk ls now phase) are ∙ ap (λ (m : Moment). look_at_with plan start.first.desk (proxy_lists start.first st) m phase) (sym same)
    ∙ ap (λ (p : ProxyPhase). look_at_with plan start.first.desk (proxy_lists start.first st) st.now p) (sym is)

module _ (plan : ProxyPlan) (start : ProxyStart) (at : ProxyAt) (own : ProxyOwn) (seen : ProxyOutside) (run : RunsProxySo at plan start own seen) where
  abbrev st : ProxyState
  st = after_proxy_events start.first before_proxy run.events

  pub looks_begun : (held : LookOwn) (outside : LookOutside) → LooksBegin (proxy_look_at plan start.first st) (proxy_looks_start start) st.looks held outside → st.phase ≡ Beginning
      → KeepsDoor seen.looks outside → held.ended ≡ None → RunsProxySo at plan start (record own { looks = held }) (record seen { looks = outside })
  looks_begun held outside (inl (find, may, so)) beginning keeps over = record {
    events = LookDone (FindBegan find) ∷ run.events;
    has = record {
      may = ((may, beginning), run.has.may);
      so = looks_go plan start st own seen run.has.so (after_look_event st.looks (FindBegan find)) st.phase held outside so (λ s. s) keeps;
    };
    stands = record {
      left = record { none_in_hand = run.stands.left.none_in_hand; none_unsettled = run.stands.left.none_unsettled };
      uncounted = run.stands.uncounted;
      phase = run.stands.phase;
      now = run.stands.now;
      turns = run.stands.turns;
    };
    none_over = over;
  }
  looks_begun held outside (inr goes) beginning keeps over = looks_settled plan start at own seen run held outside goes keeps over

  -- ---- a find that is ended

  -- memory was refused for it
  pub find_lost : (held : LookOwn) (outside : LookOutside) → LooksGoTo (proxy_look_at plan start.first st) (proxy_looks_start start) st.looks (HasEndedAsking held) held outside
      → KeepsDoor seen.looks outside → is_some held.ended ≡ false → RunsProxySo at plan start (record own { looks = held }) (record seen { looks = outside })
  find_lost held outside goes keeps none = by_end goes.ends
    where
      nothing_over : (is_some held.ended ≡ true) → ⊥
      nothing_over some = let no = sym none ∙ some in cc

      by_end : HasEndedAsking held (after_look_events st.looks goes.events) → RunsProxySo at plan start (record own { looks = held }) (record seen { looks = outside })
      by_end (inl is) = absurd (nothing_over is.0)
      by_end (inr is) =
          looks_settled plan start at own seen run held outside (record { events = goes.events; may = goes.may; kinds = goes.kinds; so = goes.so; ends = is.1 }) keeps is.0

  -- it is over, and those who waited for it are settled
  pub to_settle_of : (held : LookOwn) (state : LookState) → is_some held.ended ≡ true → HasEndedAsking held state → IsToSettle state
  to_settle_of held state some (inl is) = is.1
  to_settle_of held state some (inr is) = let no = sym some ∙ ap is_some is.0 in cc

  pub find_settled : (held held' : LookOwn) (outside outside' : LookOutside) (later : Moment) (readings' : Option (List Moment))
      → LooksGoTo (proxy_look_at plan start.first st) (proxy_looks_start start) st.looks (HasEndedAsking held) held outside → KeepsDoor seen.looks outside → is_some held.ended ≡ true
      → held.desk.opened ≡ None → IfTold readings' (with_entry seen.readings later)
      → ((state : LookState) (lists : List Held) (ending : Bool) → HoldLooksSo plan (proxy_looks_start start) state held outside → IsToSettle state
      → LooksGoTo (look_at plan start.first.desk lists later ending) (proxy_looks_start start) state HasNoLookLeft held' outside')
      → KeepsDoor outside outside' → held'.ended ≡ None
      → RunsProxySo (proxy_at at.phase later at.turns) plan start (record own { looks = held' }) (record seen { looks = outside'; readings = readings' })
  find_settled held held' outside outside' later readings' goes keeps some closed told settles keeps' over =
      let lead = looks_lead plan start.first run.events goes.events goes.kinds in
      let ended : List ProxyEvent = done_looks goes.events run.events in
      let first = after_proxy_events start.first before_proxy ended in
      let read : List ProxyEvent = ClockRead later ∷ ended in
      let second = after_proxy_events start.first before_proxy read in
      let settle : IsToSettle first.looks = subst (λ (s : ProxyState). IsToSettle s.looks) (sym lead) (to_settle_of held (after_look_events st.looks goes.events) some goes.ends) in
      let hold : HoldLooksSo plan (proxy_looks_start start) first.looks held outside = subst (λ (s : ProxyState). HoldLooksSo plan (proxy_looks_start start) s.looks held outside) (sym lead) goes.so in
      let so1 : IsProxySo plan start first (record own { looks = held }) (record seen { looks = outside }) =
      subst (λ (s : ProxyState). IsProxySo plan start s (record own { looks = held }) (record seen { looks = outside })) (sym lead)
      (looks_go plan start st own seen run.has.so (after_look_events st.looks goes.events) st.phase held outside goes.so (stops_stay st.looks goes.events) keeps) in
      let so2 : IsProxySo plan start second (record own { looks = held }) (record seen { looks = outside; readings = readings' }) =
      clock_goes plan start first (record own { looks = held }) (record seen { looks = outside }) so1 later first.turns first.phase readings' told in
      let next = settles second.looks (proxy_lists start.first second) (is_finishing second.phase) hold settle in
      let lead2 = looks_lead plan start.first read next.events next.kinds in
      let phase1 : first.phase ≡ st.phase = ap (λ (s : ProxyState). s.phase) lead in
      let turns1 : first.turns ≡ st.turns = ap (λ (s : ProxyState). s.turns) lead in
      let counted1 : first.looks.counted ≡ false = ap (λ (s : ProxyState). s.looks.counted) lead ∙ counts_stay st.looks goes.events goes.kinds ∙ run.stands.uncounted in
      record {
        events = done_looks next.events read;
        has = record {
          may = looks_may plan start.first read next.events next.kinds next.may
              (inr (settle, none_asked held.desk.opened held.asked held.looks first.looks.find_open hold.are.find closed), looks_may plan start.first run.events goes.events goes.kinds goes.may run.has.may);
          so = subst (λ (s : ProxyState). IsProxySo plan start s (record own { looks = held' }) (record seen { looks = outside'; readings = readings' })) (sym lead2)
              (looks_go plan start second (record own { looks = held }) (record seen { looks = outside; readings = readings' }) so2 (after_look_events second.looks next.events) second.phase held' outside' next.so
              (stops_stay second.looks next.events) keeps');
        };
        stands = subst (ProxyStandsAt (proxy_at at.phase later at.turns)) (sym lead2) (record {
          left = next.ends;
          uncounted = counts_stay second.looks next.events next.kinds ∙ counted1;
          phase = phase1 ∙ run.stands.phase;
          now = refl;
          turns = turns1 ∙ run.stands.turns;
        });
        none_over = over;
      }
