-- A run in which the door gives a connection, gives none, or fails.
use Rattle.std.proofs.Common.{◌≡◌, ◌<◌, ℕ, List, [], ◌∷◌, ◌++◌, true, false, Option, Some, None, refl, sym, ap, ◌∙◌, subst, inl, inr}
use Rattle.std.specs.Prelude.{is_some}
use Rattle.held_connections.specs.Held.{HoldsConnections, WireView}
use Rattle.held_connections.specs.Over.{DoorView}
use Rattle.held_connections.specs.Steps.{HandsOutWire}
use Rattle.proxy_run.specs.Events.{ProxyEvent, after_proxy_events}
use Rattle.proxy_run.specs.Events.ProxyEvent.{ClockRead, DoorFailed, LookDone, NoMoreCame, NothingCame}
use Rattle.proxy_run.specs.LookAllowed.{look_at}
use Rattle.proxy_run.specs.LookEvents.{after_look_events, first_stop}
use Rattle.proxy_run.specs.LookEvents.LookEvent.{Taken}
use Rattle.proxy_run.specs.LookSoFar.{HasOutputFailed, HoldLooksSo, LookOutside, LookOwn, LookStart, ProxyRight}
use Rattle.proxy_run.specs.LookState.{LookState}
use Rattle.proxy_run.specs.LookSteps.{KeepsDoor, LooksTake}
use Rattle.proxy_run.specs.SoFar.{IsProxySo, ProxyOutside, ProxyOwn, ProxyStart, proxy_looks_start}
use Rattle.proxy_run.specs.State.{ProxyState, before_proxy, proxy_lists}
use Rattle.proxy_run.specs.State.ProxyPhase.{Between, Ending}
use Rattle.proxy_run.specs.Steps.{ProxyStandsAt, RunsProxySo, proxy_at}
use Rattle.proxy_run.specs.declared.plan.ProxyPlan.{ProxyPlan}
use Rattle.proxy_run.specs.declared.stop.ProxyStop.{ProxyStop}
use Rattle.proxy_run.specs.declared.stop.ProxyStop.TheVariants as stop
use Rattle.proxy_run.proofs.Facts.{failed_door, has_cause, none_come_still, none_contradicts, told_more}
use Rattle.proxy_run.proofs.LookTurns.{counts_stay, done_looks, looks_lead, looks_may, stops_stay}
use Rattle.proxy_run.proofs.TurnSteps.{phase_goes}
use Rattle.sb_model.specs.declared.time.Moment.{Moment}
use Rattle.sb_outside.specs.Outside.{IfTold, Rose, with_entry}

-- ---- a connection came

module _ (plan : ProxyPlan) (start : ProxyStart) (now : Moment) (turns : ℕ) (own : ProxyOwn) (seen : ProxyOutside) (before : DoorView) (read : Option (List Moment)) (heard : Moment) (pieces : List (List ℕ)) (wire : WireView)
    (run : RunsProxySo (proxy_at Ending now turns) plan start own (record seen { readings = read; looks = record seen.looks { door = before } }))
    (reads : IfTold seen.readings (with_entry read heard)) (hands : HandsOutWire pieces before seen.looks.door wire)
    (goes_on : own.looks.stop ≡ None) (more : own.looks.connections.taken < plan.connections)
  where
    abbrev pub st : ProxyState
    st = after_proxy_events start.first before_proxy run.events

    pub look_taken : (held : LookOwn) (outside : LookOutside)
        → LooksTake (look_at plan start.first.desk (proxy_lists start.first st) heard false) (proxy_looks_start start) st.looks pieces held outside
        → KeepsDoor seen.looks outside → held.ended ≡ None
        → RunsProxySo (proxy_at Between heard turns) plan start (record own { looks = held }) (record seen { looks = outside })
    look_taken held outside takes keeps over =
        let goes = takes.goes in
        let taken : List ProxyEvent = LookDone (Taken pieces takes.received) ∷ ClockRead heard ∷ run.events in
        let third = after_proxy_events start.first before_proxy taken in
        let lead = looks_lead plan start.first taken goes.events goes.kinds in
        record {
          events = done_looks goes.events taken;
          has = record {
            may = looks_may plan start.first taken goes.events goes.kinds goes.may (
              (takes.may, (run.stands.phase, sym run.has.so.looks.are.stop ∙ goes_on, subst (λ (n : ℕ). n < plan.connections) run.has.so.looks.connections.count more)),
              (inl (run.stands.left, run.stands.phase), run.has.may),
            );
            so = subst (λ (s : ProxyState). IsProxySo plan start s (record own { looks = held }) (record seen { looks = outside })) (sym lead) (record {
              round_open = run.has.so.round_open;
              more = run.has.so.more;
              halts = λ h. let halted = run.has.so.halts h in (stops_stay third.looks goes.events halted.0, halted.1);
              no_more = run.has.so.no_more;
              rounds = run.has.so.rounds;
              looks = goes.so;
              readings = told_more start.outside.readings read seen.readings st.readings heard run.has.so.readings reads;
              none_come = λ e. none_come_still seen.looks.door.coming outside.door.coming keeps.coming (none_contradicts before.coming seen.looks.door.coming pieces hands.came (run.has.so.none_come e));
              keeper_faults = run.has.so.keeper_faults;
              door_faults = subst (λ (n : ℕ). HasOutputFailed st.door_failed start.outside.looks.door_faults n) (sym keeps.faults) run.has.so.door_faults;
              same_updates = run.has.so.same_updates;
            });
          };
          stands = subst (ProxyStandsAt (proxy_at Between heard turns)) (sym lead)
              (record { left = goes.ends; uncounted = counts_stay third.looks goes.events goes.kinds ∙ run.stands.uncounted; phase = refl; now = refl; turns = run.stands.turns });
          none_over = over;
        }

-- ---- none came

door_goes : (plan : ProxyPlan) (start : LookStart) (state : LookState) (own : LookOwn) (seen : LookOutside) → HoldLooksSo plan start state own seen → (door' : DoorView) (count : ℕ) (stop stop' : Option ProxyStop)
    → door' ≡ seen.door → stop' ≡ stop → HoldLooksSo plan start (record state { stop = stop }) (record own { stop = stop' }) (record seen { door = door'; door_faults = count })
door_goes plan start state own seen hold door' count stop stop' same ends = record {
  are = record {
    find = hold.are.find;
    waiting = hold.are.waiting;
    left = hold.are.left;
    hand = hold.are.hand;
    looks = hold.are.looks;
    askable = hold.are.askable;
    past = hold.are.past;
    waited = hold.are.waited;
    finds = hold.are.finds;
    stop = ends;
  };
  desk = hold.desk;
  connections = subst (λ (d : DoorView). HoldsConnections ProxyRight start.outside.door state.taken state.over own.connections d) (sym same) hold.connections;
  printed = hold.printed;
  faults = hold.faults;
  same_finds = hold.same_finds;
}

module _ (plan : ProxyPlan) (start : ProxyStart) (now : Moment) (turns : ℕ) (own : ProxyOwn) (seen : ProxyOutside) (run : RunsProxySo (proxy_at Ending now turns) plan start own seen) where
  abbrev pub st2 : ProxyState
  st2 = after_proxy_events start.first before_proxy run.events

  pub nothing_came : RunsProxySo (proxy_at Between now turns) plan start own seen
  nothing_came = record {
    events = NothingCame ∷ run.events;
    has = record { may = ((run.stands.left, run.stands.phase), run.has.may); so = phase_goes plan start st2 own seen run.has.so Between };
    stands = record { left = run.stands.left; uncounted = run.stands.uncounted; phase = refl; now = run.stands.now; turns = run.stands.turns };
    none_over = run.none_over;
  }

  pub no_more_came : IfTold seen.looks.door.coming (Some []) → RunsProxySo (proxy_at Between now turns) plan start (record own { no_more = true }) seen
  no_more_came none = record {
    events = NoMoreCame ∷ run.events;
    has = record {
      may = ((run.stands.left, run.stands.phase), run.has.may);
      so = record {
        round_open = run.has.so.round_open;
        more = run.has.so.more;
        halts = run.has.so.halts;
        no_more = refl;
        rounds = run.has.so.rounds;
        looks = run.has.so.looks;
        readings = run.has.so.readings;
        none_come = λ e. none;
        keeper_faults = run.has.so.keeper_faults;
        door_faults = run.has.so.door_faults;
        same_updates = run.has.so.same_updates;
      };
    };
    stands = record { left = run.stands.left; uncounted = run.stands.uncounted; phase = refl; now = run.stands.now; turns = run.stands.turns };
    none_over = run.none_over;
  }

  pub door_failed_now : (door' : DoorView) (count : ℕ) (stop' : Option ProxyStop) → door' ≡ seen.looks.door → Rose seen.looks.door_faults count → stop' ≡ first_stop own.looks.stop stop.DoorFault
      → RunsProxySo (proxy_at Between now turns) plan start (record own { looks = record own.looks { stop = stop' } }) (record seen { looks = record seen.looks { door = door'; door_faults = count } })
  door_failed_now door' count stop' same rose ends = record {
    events = DoorFailed ∷ run.events;
    has = record {
      may = ((run.stands.left, run.stands.phase), run.has.may);
      so = record {
        round_open = run.has.so.round_open;
        more = run.has.so.more;
        halts = λ h. (has_cause st2.looks.stop stop.DoorFault, (run.has.so.halts h).1);
        no_more = run.has.so.no_more;
        rounds = run.has.so.rounds;
        looks = door_goes plan (proxy_looks_start start) st2.looks own.looks seen.looks run.has.so.looks door' count (first_stop st2.looks.stop stop.DoorFault) stop' same
            (ends ∙ ap (λ (s : Option ProxyStop). first_stop s stop.DoorFault) run.has.so.looks.are.stop);
        readings = run.has.so.readings;
        none_come = λ e. none_come_still seen.looks.door.coming door'.coming (ap (λ (d : DoorView). d.coming) same) (run.has.so.none_come e);
        keeper_faults = run.has.so.keeper_faults;
        door_faults = failed_door st2.door_failed start.outside.looks.door_faults seen.looks.door_faults count run.has.so.door_faults rose;
        same_updates = run.has.so.same_updates;
      };
    };
    stands = record { left = record { none_in_hand = run.stands.left.none_in_hand; none_unsettled = run.stands.left.none_unsettled }; uncounted = run.stands.uncounted; phase = refl; now = run.stands.now; turns = run.stands.turns };
    none_over = run.none_over;
  }
