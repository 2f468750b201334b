-- A run that comes to its end.
use Rattle.std.proofs.Common.{◌≡◌, ℕ, List, [], ◌∷◌, ◌++◌, true, false, Option, None, length, refl, sym, ap, ◌∙◌, subst}
use Rattle.std.specs.Prelude.{◌||◌, is_some}
use Rattle.proxy_run.specs.Allowed.{proxy_look_at}
use Rattle.proxy_run.specs.Events.{ProxyEvent, after_proxy_events}
use Rattle.proxy_run.specs.Events.ProxyEvent.{LookDone}
use Rattle.proxy_run.specs.LookAllowed.{IsLinePart}
use Rattle.proxy_run.specs.LookEvents.{LinePart, after_look_event, after_look_events, counts_line, is_broken_by_output, part_written, stop_after_part}
use Rattle.proxy_run.specs.LookEvents.LookEvent.{CountsTold}
use Rattle.proxy_run.specs.LookSoFar.{HoldLooksSo, LookOutside, LookOwn, LookStart}
use Rattle.proxy_run.specs.LookState.{LookState}
use Rattle.proxy_run.specs.LookSteps.{HasGivenAllBack, KeepsDoor, LooksGoTo, PrintsPart}
use Rattle.proxy_run.specs.Run.{EndsProxy}
use Rattle.proxy_run.specs.SoFar.{IsProxySo, ProxyOutside, ProxyOwn, ProxyStart, proxy_looks_start}
use Rattle.proxy_run.specs.State.{ProxyState, before_proxy, is_finishing}
use Rattle.proxy_run.specs.State.ProxyPhase.{Finishing}
use Rattle.proxy_run.specs.Steps.{RunsProxySo, proxy_at}
use Rattle.proxy_run.specs.declared.plan.ProxyPlan.{ProxyPlan}
use Rattle.proxy_run.specs.declared.stop.ProxyStop.{ProxyStop}
use Rattle.proxy_run.proofs.Facts.{failed_more, printed_more}
use Rattle.proxy_run.proofs.LookTurns.{counts_stay, done_looks, looks_go, looks_lead, looks_may, stop_stays, stops_stay}
use Rattle.sb_model.specs.declared.time.Moment.{Moment}
use Rattle.sb_outside.specs.Outside.{appended}

line_of_counts : (taken taken' waited waited' finds finds' : ℕ) → taken ≡ taken' → waited ≡ waited' → finds ≡ finds' → counts_line taken waited finds ≡ counts_line taken' waited' finds'
line_of_counts taken taken' waited waited' finds finds' t w f = ap (λ (n : ℕ). counts_line n waited finds) t ∙ ap (λ (n : ℕ). counts_line taken' n finds) w ∙ ap (counts_line taken' waited') f

-- what is told at the end
module _ (plan : ProxyPlan) (start : LookStart) (state : LookState) (own : LookOwn) (seen : LookOutside) (hold : HoldLooksSo plan start state own seen) (part : LinePart) (stop' : Option ProxyStop) (output' : Option (List ℕ)) (faults' : ℕ)
    (prints : PrintsPart (counts_line own.connections.taken own.waited own.finds) part own.stop stop' seen.output output' seen.output_faults faults')
  where
    line_is : counts_line own.connections.taken own.waited own.finds ≡ counts_line (length state.taken) state.waited state.finds
    line_is = line_of_counts own.connections.taken (length state.taken) own.waited state.waited own.finds state.finds hold.connections.count hold.are.waited hold.are.finds

    pub counts_may : IsLinePart (counts_line (length state.taken) state.waited state.finds) part
    counts_may = subst (λ (line : List ℕ). IsLinePart line part) line_is prints.is

    pub counts_go : HoldLooksSo plan start (after_look_event state (CountsTold part)) (record own { stop = stop' }) (record seen { output = output'; output_faults = faults' })
    counts_go = record {
      are = record {
        find = hold.are.find;
        waiting = hold.are.waiting;
        left = hold.are.left;
        hand = hold.are.hand;
        looks = hold.are.looks;
        askable = hold.are.askable;
        past = hold.are.past;
        waited = hold.are.waited;
        finds = hold.are.finds;
        stop = prints.ends ∙ ap (λ (s : Option ProxyStop). stop_after_part s part) hold.are.stop;
      };
      desk = hold.desk;
      connections = hold.connections;
      printed = printed_more start.outside.output seen.output output' state.printed (part_written (counts_line (length state.taken) state.waited state.finds) part) hold.printed
          (subst (λ (line : List ℕ). output' ≡ appended seen.output (part_written line part)) line_is prints.written);
      faults = failed_more state.output_failed (is_broken_by_output part) start.outside.output_faults seen.output_faults faults' hold.faults prints.failed;
      same_finds = hold.same_finds;
    }

module _ (plan : ProxyPlan) (start : ProxyStart) (now : Moment) (turns : ℕ) (own : ProxyOwn) (seen : ProxyOutside) (run : RunsProxySo (proxy_at Finishing now turns) plan start own seen) (no_round : own.rounds.opened ≡ None) where
  abbrev pub st : ProxyState
  st = after_proxy_events start.first before_proxy run.events

  pub run_finished : (held : LookOwn) (outside : LookOutside) → LooksGoTo (proxy_look_at plan start.first st) (proxy_looks_start start) st.looks HasGivenAllBack held outside → KeepsDoor seen.looks outside
      → (part : LinePart) (stop' : Option ProxyStop) (output' : Option (List ℕ)) (faults' : ℕ)
      → PrintsPart (counts_line held.connections.taken held.waited held.finds) part held.stop stop' outside.output output' outside.output_faults faults'
      → EndsProxy plan start stop' (record seen { looks = record outside { output = output'; output_faults = faults' } })
  run_finished held outside goes keeps part stop' output' faults' prints =
      let lead = looks_lead plan start.first run.events goes.events goes.kinds in
      let released : List ProxyEvent = done_looks goes.events run.events in
      let second = after_proxy_events start.first before_proxy released in
      let hold : HoldLooksSo plan (proxy_looks_start start) second.looks held outside = subst (λ (s : ProxyState). HoldLooksSo plan (proxy_looks_start start) s.looks held outside) (sym lead) goes.so in
      let back : HasGivenAllBack second.looks = subst (λ (s : ProxyState). HasGivenAllBack s.looks) (sym lead) goes.ends in
      let so2 : IsProxySo plan start second (record own { looks = held }) (record seen { looks = outside }) =
      subst (λ (s : ProxyState). IsProxySo plan start s (record own { looks = held }) (record seen { looks = outside })) (sym lead)
      (looks_go plan start st own seen run.has.so (after_look_events st.looks goes.events) st.phase held outside goes.so (stops_stay st.looks goes.events) keeps) in
      let phase2 : second.phase ≡ Finishing = ap (λ (s : ProxyState). s.phase) lead ∙ run.stands.phase in
      let counted2 : second.looks.counted ≡ false = ap (λ (s : ProxyState). s.looks.counted) lead ∙ counts_stay st.looks goes.events goes.kinds ∙ run.stands.uncounted in
      let told = counts_go plan (proxy_looks_start start) second.looks held outside hold part stop' output' faults' prints in
      record {
        events = LookDone (CountsTold part) ∷ released;
        own = record own { looks = record held { stop = stop' } };
        has = record {
          may = (
            ((back.left, ap is_finishing phase2, back.nobody, counted2, counts_may plan (proxy_looks_start start) second.looks held outside hold part stop' output' faults' prints), tt),
            looks_may plan start.first run.events goes.events goes.kinds goes.may run.has.may,
          );
          so = looks_go plan start second (record own { looks = held }) (record seen { looks = outside }) so2 (after_look_event second.looks (CountsTold part)) second.phase (record held { stop = stop' })
              (record outside { output = output'; output_faults = faults' }) told (stop_stays second.looks (CountsTold part)) (record { coming = refl; faults = refl });
        };
        come = record {
          left = record { none_in_hand = back.left.none_in_hand; none_unsettled = back.left.none_unsettled };
          ended = phase2;
          no_round = sym so2.round_open ∙ ap is_some no_round;
          no_find = back.none_open;
          nobody = back.nobody;
          counted = refl;
        };
        ending = told.are.stop;
      }
