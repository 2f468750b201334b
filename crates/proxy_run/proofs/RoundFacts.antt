-- A run with one more step of its rounds.
use Rattle.std.proofs.Common.{◌≡◌, ◌<◌, ◌+◌, ℕ, List, [], ◌∷◌, ◌++◌, Bool, true, false, Option, Some, None, length, map, refl, sym, ap, ◌∙◌, subst, inl, inr}
use Rattle.std.specs.Prelude.{◌⊎◌, ◌||◌, ◌&&◌, not, nat_le, is_some, if◌then◌else◌}
use Rattle.client_line.specs.Lines.{LineView}
use Rattle.client_rounds.specs.Ended.{EndsClientRound, client_round_view}
use Rattle.client_rounds.specs.Rounds.{ClientSeen, HasKeptRounds}
use Rattle.client_rounds.specs.declared.rounds.ClientRoundTold.{ClientRoundTold}
use Rattle.proxy_run.specs.Events.{after_proxy_event, is_keeper_fault, proxy_round_text}
use Rattle.proxy_run.specs.Events.ProxyEvent.{RoundBegun, RoundOver, RoundsStopped}
use Rattle.proxy_run.specs.LookEvents.{first_stop, is_output_fault}
use Rattle.proxy_run.specs.LookSoFar.{HasOutputFailed, HoldLooksSo, LookOutside, LookOwn}
use Rattle.proxy_run.specs.LookState.{LookState}
use Rattle.proxy_run.specs.SoFar.{AreUpdatesSo, IsProxySo, ProxyOutside, ProxyOwn, ProxyStart, StopsBeforeUpdate, StopsInLastUpdate, proxy_looks_start, updates_start}
use Rattle.proxy_run.specs.State.{ProxyState, StoppedUpdates, proxy_lists, proxy_round_is_due, proxy_round_waits}
use Rattle.proxy_run.specs.Steps.{has_moment_come, own_update_is_due}
use Rattle.proxy_run.specs.declared.plan.ProxyPlan.{ProxyPlan}
use Rattle.proxy_run.specs.declared.stop.ProxyStop.{ProxyStop}
use Rattle.proxy_run.proofs.Facts.{due_is, failed_more, has_cause, not_stopped, printed_more}
use Rattle.sb_model.specs.declared.time.Moment.{Moment}
use Rattle.sb_outside.specs.Outside.{appended}
use Rattle.sb_round.specs.Rounds.{round_updates}
use Rattle.sb_round.specs.Run.{lists_after}
use Rattle.update_client.specs.Held.{Held}
use Rattle.update_run.specs.Printed.{round_end, told_end}
use Rattle.update_run.specs.Saved.{Keeping}

-- ---- the look-ups where something else is printed, or ends the run

pub looks_print : (plan : ProxyPlan) (start : ProxyStart) (state : LookState) (own : LookOwn) (seen : LookOutside) → HoldLooksSo plan (proxy_looks_start start) state own seen
    → (more : List ℕ) (stop stop' : Option ProxyStop) (failed : Bool) (output' : Option (List ℕ)) (faults' : ℕ) → stop' ≡ stop → output' ≡ appended seen.output more
    → HasOutputFailed failed start.outside.looks.output_faults faults'
    → HoldLooksSo plan (proxy_looks_start start) (record state { printed = state.printed ++ more; stop = stop; output_failed = failed }) (record own { stop = stop' })
    (record seen { output = output'; output_faults = faults' })
looks_print plan start state own seen hold more stop stop' failed output' faults' ends text faults = record {
  are = record {
    find = hold.are.find;
    waiting = hold.are.waiting;
    left = hold.are.left;
    hand = hold.are.hand;
    looks = hold.are.looks;
    askable = hold.are.askable;
    past = hold.are.past;
    waited = hold.are.waited;
    finds = hold.are.finds;
    stop = ends;
  };
  desk = hold.desk;
  connections = hold.connections;
  printed = printed_more start.outside.looks.output seen.output output' state.printed more hold.printed text;
  faults = faults;
  same_finds = hold.same_finds;
}

module _ (plan : ProxyPlan) (start : ProxyStart) (st : ProxyState) (own : ProxyOwn) (seen : ProxyOutside) (so : IsProxySo plan start st own seen) where
  pub none_stopped : ((own.looks.stop ≡ None) ⊎ (st.round_open ≡ true)) → st.stopped ≡ None
  none_stopped (inl e) = not_stopped st.stopped st.looks.stop st.round_open so.halts (inl (sym so.looks.are.stop ∙ e))
  none_stopped (inr e) = not_stopped st.stopped st.looks.stop st.round_open so.halts (inr e)

  pub made_now : st.stopped ≡ None → HasKeptRounds plan.updates (updates_start start) st.rounds own.rounds seen.updates seen.keeper
  made_now none = subst (λ (o : Option StoppedUpdates). AreUpdatesSo plan start st.rounds o own.rounds seen.updates seen.keeper) none so.rounds

  -- the lists and the state of waiting are those to which the rounds led
  pub lists_are : st.stopped ≡ None → own.rounds.state.lists ≡ proxy_lists start.first st
  lists_are none = (made_now none).made.lists_are

  pub due_now : st.stopped ≡ None → (now : Moment) → st.now ≡ now → own_update_is_due plan.updates.rounds own now ≡ proxy_round_is_due plan.updates.rounds start.first st
  due_now none now is =
      ap (λ (at : Moment). has_moment_come (if is_some own.rounds.opened || nat_le plan.updates.rounds own.rounds.over then None else Some at) now) (ap (λ w. w.allowed_at) (made_now none).made.waits_are)
      ∙ ap (λ (o : Bool). has_moment_come (if o || nat_le plan.updates.rounds own.rounds.over then None else Some (proxy_round_waits start.first st).allowed_at) now) so.round_open
      ∙ ap (λ (n : ℕ). has_moment_come (if st.round_open || nat_le plan.updates.rounds n then None else Some (proxy_round_waits start.first st).allowed_at) now) (made_now none).count
      ∙ due_is st.round_open (nat_le plan.updates.rounds (length st.rounds)) (proxy_round_waits start.first st).allowed_at now
      ∙ ap (λ (m : Moment). not st.round_open && not (nat_le plan.updates.rounds (length st.rounds)) && nat_le (proxy_round_waits start.first st).allowed_at.0 m.0) (sym is)

  -- ---- a round is begun

  pub round_begun : (rounds' : ClientSeen) (line' : LineView) → st.stopped ≡ None → is_some rounds'.opened ≡ true
      → length st.rounds < plan.updates.rounds → HasKeptRounds plan.updates (updates_start start) st.rounds rounds' line' seen.keeper → line'.objects ≡ seen.updates.objects
      → IsProxySo plan start (after_proxy_event start.first st RoundBegun) (record own { rounds = rounds' }) (record seen { updates = line' })
  round_begun rounds' line' none opened few made same = record {
    round_open = opened;
    more = λ e. few;
    halts = λ h. let n : is_some st.stopped ≡ false = ap is_some none in cc;
    no_more = so.no_more;
    rounds = subst (λ (o : Option StoppedUpdates). AreUpdatesSo plan start st.rounds o rounds' line' seen.keeper) (sym none) made;
    looks = so.looks;
    readings = so.readings;
    none_come = so.none_come;
    keeper_faults = so.keeper_faults;
    door_faults = so.door_faults;
    same_updates = same ∙ so.same_updates;
  }

  -- ---- no further round is made

  pub rounds_stopped : (why : ProxyStop) (written : List ℕ) (rounds' : ClientSeen) (marks' : List Bool) (line' : LineView) (keeper' : Keeping) (output' : Option (List ℕ)) (outs' keeps' : ℕ) (stop' : Option ProxyStop)
      → rounds'.opened ≡ None → stop' ≡ first_stop own.looks.stop why
      → (made : HasKeptRounds plan.updates (updates_start start) st.rounds own.rounds seen.updates seen.keeper)
      → (StopsInLastUpdate plan start st.rounds own.rounds (record { why = why; before = st.looks.printed; written = written }) (client_round_view seen.updates seen.keeper seen.looks.output) (client_round_view line' keeper' output')
      ⊎ StopsBeforeUpdate plan own.rounds (record { why = why; before = st.looks.printed; written = written }) (client_round_view seen.updates seen.keeper seen.looks.output) (client_round_view line' keeper' output'))
      → output' ≡ appended seen.looks.output written
      → HasOutputFailed (is_output_fault why) seen.looks.output_faults outs' → HasOutputFailed (is_keeper_fault why) seen.keeper_faults keeps'
      → line'.objects ≡ seen.updates.objects
      → IsProxySo plan start (after_proxy_event start.first st (RoundsStopped why written)) (record own { rounds = rounds'; marks = marks'; looks = record own.looks { stop = stop' } })
      (record seen { updates = line'; keeper = keeper'; keeper_faults = keeps'; looks = record seen.looks { output = output'; output_faults = outs' } })
  rounds_stopped why written rounds' marks' line' keeper' output' outs' keeps' stop' closed ends made stops text outs keeps same =
      let printed' : output' ≡ appended start.outside.looks.output (st.looks.printed ++ written) =
      printed_more start.outside.looks.output seen.looks.output output' st.looks.printed written so.looks.printed text in
      record {
        round_open = ap is_some closed;
        more = λ e. cc;
        halts = λ h. (has_cause st.looks.stop why, refl);
        no_more = so.no_more;
        rounds = record {
          before = own.rounds;
          line_then = seen.updates;
          keeper_then = seen.keeper;
          made = made;
          stops = subst (λ (o : Option (List ℕ)).
              StopsInLastUpdate plan start st.rounds own.rounds (record { why = why; before = st.looks.printed; written = written }) (client_round_view seen.updates seen.keeper (appended start.outside.looks.output st.looks.printed)) (client_round_view line' keeper' o)
              ⊎ StopsBeforeUpdate plan own.rounds (record { why = why; before = st.looks.printed; written = written }) (client_round_view seen.updates seen.keeper (appended start.outside.looks.output st.looks.printed)) (client_round_view line' keeper' o))
              printed'
              (subst (λ (o : Option (List ℕ)).
              StopsInLastUpdate plan start st.rounds own.rounds (record { why = why; before = st.looks.printed; written = written }) (client_round_view seen.updates seen.keeper o) (client_round_view line' keeper' output')
              ⊎ StopsBeforeUpdate plan own.rounds (record { why = why; before = st.looks.printed; written = written }) (client_round_view seen.updates seen.keeper o) (client_round_view line' keeper' output'))
              so.looks.printed stops);
        };
        looks = looks_print plan start st.looks own.looks seen.looks so.looks written (first_stop st.looks.stop why) stop' (st.looks.output_failed || is_output_fault why) output' outs'
            (ends ∙ ap (λ (s : Option ProxyStop). first_stop s why) so.looks.are.stop) text
            (failed_more st.looks.output_failed (is_output_fault why) start.outside.looks.output_faults seen.looks.output_faults outs' so.looks.faults outs);
        readings = so.readings;
        none_come = so.none_come;
        keeper_faults = failed_more st.keeper_failed (is_keeper_fault why) start.outside.keeper_faults seen.keeper_faults keeps' so.keeper_faults keeps;
        door_faults = so.door_faults;
        same_updates = same ∙ so.same_updates;
      }

  -- ---- a round is over

  pub round_over : (told : ClientRoundTold) (rounds' : ClientSeen) (marks' : List Bool) (line' : LineView) (keeper' : Keeping) (output' : Option (List ℕ)) → st.stopped ≡ None
      → (ends : EndsClientRound plan.updates (updates_start start) st.rounds own.rounds rounds' (client_round_view seen.updates seen.keeper seen.looks.output) (client_round_view line' keeper' output') told)
      → line'.objects ≡ seen.updates.objects
      → IsProxySo plan start (after_proxy_event start.first st (RoundOver ends.round)) (record own { rounds = rounds'; marks = marks' })
      (record seen { updates = line'; keeper = keeper'; looks = record seen.looks { output = output' } })
  round_over told rounds' marks' line' keeper' output' none ends same = record {
    round_open = ap is_some ends.closed;
    more = λ e. cc;
    halts = λ h. let n : is_some st.stopped ≡ false = ap is_some none in cc;
    no_more = so.no_more;
    rounds = subst (λ (o : Option StoppedUpdates). AreUpdatesSo plan start (st.rounds ++ ends.round ∷ []) o rounds' line' keeper') (sym none) ends.has;
    looks = looks_print plan start st.looks own.looks seen.looks so.looks (proxy_round_text start.first.client.lists st.rounds ends.round) st.looks.stop own.looks.stop st.looks.output_failed output' seen.looks.output_faults
        so.looks.are.stop
        (ends.text
        ∙ ap (λ (ls : List Held). appended seen.looks.output (told_end (length st.rounds + 1) ls (round_end own.rounds.state.lists ends.round))) ends.has.made.lists_are
        ∙ ap (λ (ls : List Held). appended seen.looks.output (told_end (length st.rounds + 1) (lists_after start.first.client.lists (map round_updates (st.rounds ++ ends.round ∷ []))) (round_end ls ends.round))) (lists_are none))
        so.looks.faults;
    readings = so.readings;
    none_come = so.none_come;
    keeper_faults = so.keeper_faults;
    door_faults = so.door_faults;
    same_updates = same ∙ so.same_updates;
  }
