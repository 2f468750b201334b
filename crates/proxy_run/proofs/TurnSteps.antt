-- What the turns of a run leave of it.
use Rattle.std.proofs.Common.{◌≡◌, ◌<◌, ◌≤◌, ◌+◌, ◌-◌, ◌^◌, ℕ, List, [], ◌∷◌, true, false, Option, Some, None, refl, sym, ap, ◌∙◌, subst, inl, inr}
use Rattle.std.specs.Prelude.{◌⊎◌, ◌++◌, is_some}
use Rattle.client_rounds.specs.Rounds.{ClientSeen, next_client_round_at}
use Rattle.find_desk.specs.Events.{waits_after_events}
use Rattle.proxy_run.specs.Allowed.{HasBegunAllDue, IsLastProxyTurn, proxy_look_at}
use Rattle.proxy_run.specs.Events.{after_proxy_events}
use Rattle.proxy_run.specs.Events.ProxyEvent.{AllBegun, RunEnding, TurnBegun}
use Rattle.proxy_run.specs.LookAllowed.{HasNoLookLeft}
use Rattle.proxy_run.specs.LookEvents.{after_look_events}
use Rattle.proxy_run.specs.LookSoFar.{LookOutside, LookOwn}
use Rattle.proxy_run.specs.LookSteps.{IsNoFindDue, KeepsDoor, LooksGoTo}
use Rattle.proxy_run.specs.SoFar.{IsProxySo, ProxyOutside, ProxyOwn, ProxyStart, proxy_looks_start}
use Rattle.proxy_run.specs.State.{ProxyPhase, ProxyState, before_proxy}
use Rattle.proxy_run.specs.State.ProxyPhase.{Beginning, Between, Ending, Finishing}
use Rattle.proxy_run.specs.Steps.{IsLastOfProxy, ProxyAt, ProxyStandsAt, RunsProxySo, has_moment_come, own_update_is_due, proxy_at}
use Rattle.proxy_run.specs.declared.plan.ProxyPlan.{ProxyPlan}
use Rattle.proxy_run.specs.declared.stop.ProxyStop.{ProxyStop}
use Rattle.proxy_run.proofs.Facts.{told_more}
use Rattle.proxy_run.proofs.LookTurns.{counts_stay, done_looks, looks_go, looks_lead, looks_may, nobody_waits, some_asked, stops_stay}
use Rattle.proxy_run.proofs.RoundFacts.{due_now, none_stopped}
use Rattle.sb_model.specs.declared.time.Moment.{Moment}
use Rattle.sb_outside.specs.Outside.{IfTold, with_entry}
use Rattle.wait_rules.specs.Waits.{may_send_at}

module _ (plan : ProxyPlan) (start : ProxyStart) (st : ProxyState) (own : ProxyOwn) (seen : ProxyOutside) (so : IsProxySo plan start st own seen) where
  pub phase_goes : (phase' : ProxyPhase) → IsProxySo plan start (record st { phase = phase' }) own seen
  phase_goes phase' = record {
    round_open = so.round_open;
    more = so.more;
    halts = so.halts;
    no_more = so.no_more;
    rounds = so.rounds;
    looks = so.looks;
    readings = so.readings;
    none_come = so.none_come;
    keeper_faults = so.keeper_faults;
    door_faults = so.door_faults;
    same_updates = so.same_updates;
  }

  pub clock_goes : (now' : Moment) (turns' : ℕ) (phase' : ProxyPhase) (readings' : Option (List Moment)) → IfTold readings' (with_entry seen.readings now')
      → IsProxySo plan start (record st { turns = turns'; readings = st.readings ++ now' ∷ []; now = now'; phase = phase' }) own (record seen { readings = readings' })
  clock_goes now' turns' phase' readings' told = record {
    round_open = so.round_open;
    more = so.more;
    halts = so.halts;
    no_more = so.no_more;
    rounds = so.rounds;
    looks = so.looks;
    readings = told_more start.outside.readings seen.readings readings' st.readings now' so.readings told;
    none_come = so.none_come;
    keeper_faults = so.keeper_faults;
    door_faults = so.door_faults;
    same_updates = so.same_updates;
  }

pub turn_begins : (plan : ProxyPlan) (start : ProxyStart) (before now : Moment) (turns : ℕ) (own : ProxyOwn) (seen : ProxyOutside) (readings' : Option (List Moment))
    → RunsProxySo (proxy_at Between before turns) plan start own seen → own.looks.stop ≡ None → own.no_more ≡ false → own.looks.connections.taken < plan.connections
    → IfTold readings' (with_entry seen.readings now)
    → RunsProxySo (proxy_at Beginning now (turns + 1)) plan start own (record seen { readings = readings' })
turn_begins plan start before now turns own seen readings' run goes_on more_come more reads =
    let here = after_proxy_events start.first before_proxy run.events in
    record {
      events = TurnBegun now ∷ run.events;
      has = record {
        may = (
          record {
            left = run.stands.left;
            phase = run.stands.phase;
            goes_on = sym run.has.so.looks.are.stop ∙ goes_on;
            more_come = sym run.has.so.no_more ∙ more_come;
            more = subst (λ (n : ℕ). n < plan.connections) run.has.so.looks.connections.count more;
          },
          run.has.may,
        );
        so = clock_goes plan start here own seen run.has.so now (here.turns + 1) Beginning readings' reads;
      };
      stands = record { left = run.stands.left; uncounted = run.stands.uncounted; phase = refl; now = refl; turns = ap (λ (n : ℕ). n + 1) run.stands.turns };
      none_over = run.none_over;
    }

module _ (plan : ProxyPlan) (start : ProxyStart) (now : Moment) (turns : ℕ) (own : ProxyOwn) (seen : ProxyOutside) (run : RunsProxySo (proxy_at Beginning now turns) plan start own seen) where
  abbrev pub st : ProxyState
  st = after_proxy_events start.first before_proxy run.events

  begun_so : (HasBegunAllDue plan start.first st ⊎ (is_some st.looks.stop ≡ true)) → RunsProxySo (proxy_at Ending now turns) plan start own seen
  begun_so all = record {
    events = AllBegun ∷ run.events;
    has = record { may = ((run.stands.left, run.stands.phase, all), run.has.may); so = phase_goes plan start st own seen run.has.so Ending };
    stands = record { left = run.stands.left; uncounted = run.stands.uncounted; phase = refl; now = run.stands.now; turns = run.stands.turns };
    none_over = run.none_over;
  }

  pub stopped_begun : is_some own.looks.stop ≡ true → RunsProxySo (proxy_at Ending now turns) plan start own seen
  stopped_begun stopped = begun_so (inr (ap is_some (sym run.has.so.looks.are.stop) ∙ stopped))

  none_due : IsNoFindDue now own.looks
      → (st.looks.waiting ≡ []) ⊎ (is_some st.looks.find_open ≡ true) ⊎ (may_send_at (waits_after_events start.first.desk.waits st.looks.desk) st.now ≡ false)
  none_due (inl none) = inl (nobody_waits own.looks.connections.waiting st.looks.unsettled st.looks.waiting run.has.so.looks.are.waiting none)
  none_due (inr (inl opened)) = inr (inl (some_asked own.looks.desk.opened own.looks.asked own.looks.looks st.looks.find_open run.has.so.looks.are.find opened))
  none_due (inr (inr may)) = inr (inr (ap (λ (m : Moment). may_send_at (waits_after_events start.first.desk.waits st.looks.desk) m) run.stands.now
      ∙ ap (λ w. may_send_at w now) (sym run.has.so.looks.desk.waits_are) ∙ may))

  by_stop : (stop : Option ProxyStop) → own.looks.stop ≡ stop → own_update_is_due plan.updates.rounds own now ≡ false → IsNoFindDue now own.looks → RunsProxySo (proxy_at Ending now turns) plan start own seen
  by_stop (Some why) same round find = stopped_begun (ap is_some same)
  by_stop None same round find = begun_so (inl (record {
    rounds = sym (due_now plan start st own seen run.has.so (none_stopped plan start st own seen run.has.so (inl same)) now run.stands.now) ∙ round;
    finds = none_due find;
  }))

  pub all_begun : own_update_is_due plan.updates.rounds own now ≡ false → IsNoFindDue now own.looks → RunsProxySo (proxy_at Ending now turns) plan start own seen
  all_begun round find = by_stop own.looks.stop refl round find

-- what is not due stays so while no round is begun
pub round_not_due : (rounds : ℕ) (now : Moment) (own own' : ProxyOwn) → is_some own.looks.stop ≡ false → (is_some own.looks.stop ≡ true) ⊎ (own_update_is_due rounds own now ≡ false) → own'.rounds ≡ own.rounds
    → own_update_is_due rounds own' now ≡ false
round_not_due rounds now own own' going (inl stopped) same = let no = sym going ∙ stopped in cc
round_not_due rounds now own own' going (inr none) same = ap (λ (r : ClientSeen). has_moment_come (next_client_round_at rounds r) now) same ∙ none

pub going_on : (stop : Option ProxyStop) → is_some stop ≡ false → stop ≡ None
going_on None is = refl
going_on (Some why) is = cc

-- ---- the end

last_of : (plan : ProxyPlan) (start : ProxyStart) (own : ProxyOwn) (seen : ProxyOutside) (state : ProxyState) → IsProxySo plan start state own seen → (turns : ℕ) → state.turns ≡ turns
    → IsLastOfProxy plan own ⊎ (turns ≡ 2 ^ 64 - 1) → IsLastProxyTurn plan state
last_of plan start own seen state so turns same (inl (inl stopped)) = inl (ap is_some (sym so.looks.are.stop) ∙ stopped)
last_of plan start own seen state so turns same (inl (inr (inl no_more))) = inr (inl (sym so.no_more ∙ no_more))
last_of plan start own seen state so turns same (inl (inr (inr all))) = inr (inr (inl (subst (λ (n : ℕ). plan.connections ≤ n) so.looks.connections.count all)))
last_of plan start own seen state so turns same (inr counted) = inr (inr (inr (same ∙ counted)))

pub run_ends : (plan : ProxyPlan) (start : ProxyStart) (now : Moment) (turns : ℕ) (own : ProxyOwn) (seen : ProxyOutside) → RunsProxySo (proxy_at Between now turns) plan start own seen
    → IsLastOfProxy plan own ⊎ (turns ≡ 2 ^ 64 - 1) → RunsProxySo (proxy_at Finishing now turns) plan start own seen
run_ends plan start now turns own seen run last =
    let here = after_proxy_events start.first before_proxy run.events in
    record {
      events = RunEnding ∷ run.events;
      has = record { may = ((run.stands.left, run.stands.phase, last_of plan start own seen here run.has.so turns run.stands.turns last), run.has.may); so = phase_goes plan start here own seen run.has.so Finishing };
      stands = record { left = run.stands.left; uncounted = run.stands.uncounted; phase = refl; now = run.stands.now; turns = run.stands.turns };
      none_over = run.none_over;
    }

-- ---- the look-ups go on

pub looks_settled : (plan : ProxyPlan) (start : ProxyStart) (at : ProxyAt) (own : ProxyOwn) (seen : ProxyOutside) (run : RunsProxySo at plan start own seen) (held : LookOwn) (outside : LookOutside)
    → LooksGoTo (proxy_look_at plan start.first (after_proxy_events start.first before_proxy run.events)) (proxy_looks_start start) (after_proxy_events start.first before_proxy run.events).looks HasNoLookLeft held outside
    → KeepsDoor seen.looks outside → held.ended ≡ None
    → RunsProxySo at plan start (record own { looks = held }) (record seen { looks = outside })
looks_settled plan start at own seen run held outside goes keeps over =
    let st = after_proxy_events start.first before_proxy run.events in
    let lead = looks_lead plan start.first run.events goes.events goes.kinds in
    record {
      events = done_looks goes.events run.events;
      has = record {
        may = looks_may plan start.first run.events goes.events goes.kinds goes.may run.has.may;
        so = subst (λ (s : ProxyState). IsProxySo plan start s (record own { looks = held }) (record seen { looks = outside })) (sym lead)
            (looks_go plan start st own seen run.has.so (after_look_events st.looks goes.events) st.phase held outside goes.so (stops_stay st.looks goes.events) keeps);
      };
      stands = subst (ProxyStandsAt at) (sym lead)
          (record { left = goes.ends; uncounted = counts_stay st.looks goes.events goes.kinds ∙ run.stands.uncounted; phase = run.stands.phase; now = run.stands.now; turns = run.stands.turns });
      none_over = over;
    }
