-- What the steps of rounds leave of a run.
use Rattle.std.proofs.Common.{◌≡◌, ◌<◌, ◌+◌, ℕ, List, [], ◌∷◌, Bool, true, false, Option, Some, None, length, refl, sym, ◌∙◌, subst, inl, inr}
use Rattle.std.proofs.lemmas.Bool.{leb-false}
use Rattle.std.specs.Prelude.{◌||◌, nat_le, is_some, if◌then◌else◌}
use Rattle.client_line.specs.Lines.{LineView}
use Rattle.client_rounds.specs.Ended.{EndsClientRound, ClientRoundView, StopsClientRound, StopsClientTelling, client_round_view}
use Rattle.client_rounds.specs.Rounds.{HasKeptRounds, ClientSeen, ClientStart}
use Rattle.client_rounds.specs.declared.rounds.ClientRoundTold.{ClientRoundTold}
use Rattle.proxy_run.specs.Events.{after_proxy_events, is_keeper_fault}
use Rattle.proxy_run.specs.LookEvents.{first_stop, is_output_fault}
use Rattle.proxy_run.specs.LookSoFar.{HasOutputFailed}
use Rattle.proxy_run.specs.Events.ProxyEvent.{RoundBegun, RoundOver, RoundsStopped}
use Rattle.proxy_run.specs.SoFar.{ProxyOutside, ProxyOwn, ProxyStart, proxy_cause_of, updates_start}
use Rattle.proxy_run.specs.State.{ProxyState, before_proxy, proxy_round_is_due}
use Rattle.proxy_run.specs.State.ProxyPhase.{Beginning}
use Rattle.proxy_run.specs.Steps.{ProxyAt, RunsProxySo, has_moment_come, own_update_is_due, proxy_at}
use Rattle.proxy_run.specs.declared.plan.ProxyPlan.{ProxyPlan}
use Rattle.proxy_run.specs.declared.stop.ProxyStop.{ProxyStop}
use Rattle.proxy_run.specs.declared.stop.ProxyStop.TheVariants as stop
use Rattle.proxy_run.proofs.Facts.{appended_nothing}
use Rattle.proxy_run.proofs.RoundFacts.{due_now, made_now, none_stopped, round_begun, round_over, rounds_stopped}
use Rattle.sb_model.specs.declared.time.Moment.{Moment}
use Rattle.sb_outside.specs.Outside.{Rose, appended}
use Rattle.sb_round.specs.Round.{BreaksOff, Round}
use Rattle.update_client.specs.Held.{Held}
use Rattle.sb_round.specs.Printed.{round_lines}
use Rattle.sb_round.specs.declared.rounds.RoundEnd.{RoundEnd}
use Rattle.update_run.specs.Printed.{round_end}
use Rattle.update_run.specs.Saved.{Keeping}
use Rattle.update_run.specs.declared.plan.Plan.{Plan}
use Rattle.update_run.specs.declared.stop.RunStop.{RunStop}
use Rattle.update_run.specs.declared.stop.RunStop.TheVariants as run_stop

-- a round that is due is not the last but one, and none is open
due_few : (opened over : Bool) (at now : Moment) → has_moment_come (if opened || over then None else Some at) now ≡ true → over ≡ false
due_few true over at now is = cc
due_few false true at now is = cc
due_few false false at now is = refl

due_closed : (opened over : Bool) (at now : Moment) → has_moment_come (if opened || over then None else Some at) now ≡ true → opened ≡ false
due_closed true over at now is = cc
due_closed false over at now is = refl

closed_is : {A : Type 0} (opened : Option A) → is_some opened ≡ false → opened ≡ None
closed_is None is = refl
closed_is (Some a) is = cc

pub none_open : (most : ℕ) (own : ProxyOwn) (now : Moment) → own_update_is_due most own now ≡ true → own.rounds.opened ≡ None
none_open most own now is = closed_is own.rounds.opened (due_closed (is_some own.rounds.opened) (nat_le most own.rounds.over) own.rounds.state.waits.allowed_at now is)

module _ (plan : ProxyPlan) (start : ProxyStart) (now : Moment) (turns : ℕ) (own : ProxyOwn) (seen : ProxyOutside) (run : RunsProxySo (proxy_at Beginning now turns) plan start own seen)
    (goes_on : own.looks.stop ≡ None) (due : own_update_is_due plan.updates.rounds own now ≡ true)
  where
    abbrev pub st : ProxyState
    st = after_proxy_events start.first before_proxy run.events

    none : st.stopped ≡ None
    none = none_stopped plan start st own seen run.has.so (inl goes_on)

    due_is : proxy_round_is_due plan.updates.rounds start.first st ≡ true
    due_is = sym (due_now plan start st own seen run.has.so none now run.stands.now) ∙ due

    few : length st.rounds < plan.updates.rounds
    few = subst (λ (n : ℕ). n < plan.updates.rounds) (made_now plan start st own seen run.has.so none).count
        (leb-false plan.updates.rounds own.rounds.over (due_few (is_some own.rounds.opened) (nat_le plan.updates.rounds own.rounds.over) own.rounds.state.waits.allowed_at now due))

    pub round_begins : (rounds' : ClientSeen) (line' : LineView) → is_some rounds'.opened ≡ true
        → ((rounds : List Round) → HasKeptRounds plan.updates (updates_start start) rounds own.rounds seen.updates seen.keeper → HasKeptRounds plan.updates (updates_start start) rounds rounds' line' seen.keeper)
        → line'.objects ≡ seen.updates.objects
        → RunsProxySo (proxy_at Beginning now turns) plan start (record own { rounds = rounds' }) (record seen { updates = line' })
    round_begins rounds' line' opened begun same = record {
      events = RoundBegun ∷ run.events;
      has = record {
        may = ((run.stands.left, run.stands.phase, sym run.has.so.looks.are.stop ∙ goes_on, due_is), run.has.may);
        so = round_begun plan start st own seen run.has.so rounds' line' none opened few (begun st.rounds (made_now plan start st own seen run.has.so none)) same;
      };
      stands = record { left = record { none_in_hand = run.stands.left.none_in_hand; none_unsettled = run.stands.left.none_unsettled }; uncounted = run.stands.uncounted; phase = run.stands.phase; now = run.stands.now; turns = run.stands.turns };
      none_over = run.none_over;
    }

    pub round_refused : (line' : LineView) (stop' : Option ProxyStop) → stop' ≡ first_stop own.looks.stop stop.OutOfMemory
        → BreaksOff own.rounds.state.lists own.rounds.state.waits plan.updates.options plan.updates.target seen.updates.told line'.told
        → line'.objects ≡ seen.updates.objects
        → RunsProxySo (proxy_at Beginning now turns) plan start (record own { looks = record own.looks { stop = stop' } }) (record seen { updates = line' })
    round_refused line' stop' ends breaks same = record {
      events = RoundsStopped stop.OutOfMemory [] ∷ run.events;
      has = record {
        may = ((run.stands.left, inr (run.stands.phase, due_is)), run.has.may);
        so = rounds_stopped plan start st own seen run.has.so stop.OutOfMemory [] own.rounds own.marks line' seen.keeper seen.looks.output seen.looks.output_faults seen.keeper_faults stop'
            (none_open plan.updates.rounds own now due) ends
            (made_now plan start st own seen run.has.so none) (inr (record { memory = refl; nothing = refl; breaks = breaks; keeper = refl }))
            (sym (appended_nothing seen.looks.output)) refl refl same;
      };
      stands = record { left = record { none_in_hand = run.stands.left.none_in_hand; none_unsettled = run.stands.left.none_unsettled }; uncounted = run.stands.uncounted; phase = run.stands.phase; now = run.stands.now; turns = run.stands.turns };
      none_over = run.none_over;
    }

-- ---- a round that is ended

told_so : (why : RunStop) (number : ℕ) (end : RoundEnd) (lists : List Held) (before after : Keeping) (output output' : Option (List ℕ))
    → StopsClientTelling why number end lists before after output output' → (written : List ℕ) × (output' ≡ appended output written)
told_so run_stop.WriteFault number end lists before after output output' (inl stops) = (stops.1.taken, stops.1.has)
told_so run_stop.KeepFault number end lists before after output output' (inl stops) = (round_lines number end, stops.2)
told_so run_stop.OutOfMemory number end lists before after output output' (inl stops) = (stops.1.taken, stops.1.has)
told_so why number end lists before after output output' (inr stops) = (stops.2.taken, stops.2.has)

-- so much was written of the lines of a round in which the proxy stopped
pub written_so : (why : RunStop) (plan : Plan) (client : ClientStart) (rounds : List Round) (before : ClientSeen) (view view' : ClientRoundView)
    → StopsClientRound why plan client rounds before view view' → (written : List ℕ) × (view'.output ≡ appended view.output written)
written_so why plan client rounds before view view' (inr stops) = ([], stops.output_kept ∙ sym (appended_nothing view.output))
written_so why plan client rounds before view view' (inl stops) =
    told_so why (length rounds + 1) (round_end before.state.lists stops.round) stops.state.lists view.keeper view'.keeper view.output view'.output stops.stops

module _ (plan : ProxyPlan) (start : ProxyStart) (at : ProxyAt) (own : ProxyOwn) (seen : ProxyOutside) (run : RunsProxySo at plan start own seen) (opened : is_some own.rounds.opened ≡ true) where
  abbrev pub st2 : ProxyState
  st2 = after_proxy_events start.first before_proxy run.events

  is_open : st2.round_open ≡ true
  is_open = sym run.has.so.round_open ∙ opened

  none2 : st2.stopped ≡ None
  none2 = none_stopped plan start st2 own seen run.has.so (inr is_open)

  pub made_open : HasKeptRounds plan.updates (updates_start start) st2.rounds own.rounds seen.updates seen.keeper
  made_open = made_now plan start st2 own seen run.has.so none2

  pub more_left : own.rounds.over < plan.updates.rounds
  more_left = subst (λ (n : ℕ). n < plan.updates.rounds) (sym made_open.count) (run.has.so.more is_open)

  pub round_ends : (told : ClientRoundTold) (rounds' : ClientSeen) (marks' : List Bool) (line' : LineView) (keeper' : Keeping) (output' : Option (List ℕ))
      → EndsClientRound plan.updates (updates_start start) st2.rounds own.rounds rounds' (client_round_view seen.updates seen.keeper seen.looks.output) (client_round_view line' keeper' output') told
      → line'.objects ≡ seen.updates.objects
      → RunsProxySo at plan start (record own { rounds = rounds'; marks = marks' }) (record seen { updates = line'; keeper = keeper'; looks = record seen.looks { output = output' } })
  round_ends told rounds' marks' line' keeper' output' ends same = record {
    events = RoundOver ends.round ∷ run.events;
    has = record {
      may = ((run.stands.left, is_open), run.has.may);
      so = round_over plan start st2 own seen run.has.so told rounds' marks' line' keeper' output' none2 ends same;
    };
    stands = record { left = record { none_in_hand = run.stands.left.none_in_hand; none_unsettled = run.stands.left.none_unsettled }; uncounted = run.stands.uncounted; phase = run.stands.phase; now = run.stands.now; turns = run.stands.turns };
    none_over = run.none_over;
  }

  pub round_halts : (why : RunStop) (written : List ℕ) (rounds' : ClientSeen) (marks' : List Bool) (line' : LineView) (keeper' : Keeping) (output' : Option (List ℕ)) (outs' keeps' : ℕ) (stop' : Option ProxyStop)
      → rounds'.opened ≡ None → stop' ≡ first_stop own.looks.stop (proxy_cause_of why)
      → StopsClientRound why plan.updates (updates_start start) st2.rounds own.rounds (client_round_view seen.updates seen.keeper seen.looks.output) (client_round_view line' keeper' output')
      → output' ≡ appended seen.looks.output written
      → HasOutputFailed (is_output_fault (proxy_cause_of why)) seen.looks.output_faults outs' → HasOutputFailed (is_keeper_fault (proxy_cause_of why)) seen.keeper_faults keeps'
      → line'.objects ≡ seen.updates.objects
      → RunsProxySo at plan start (record own { rounds = rounds'; marks = marks'; looks = record own.looks { stop = stop' } })
      (record seen { updates = line'; keeper = keeper'; keeper_faults = keeps'; looks = record seen.looks { output = output'; output_faults = outs' } })
  round_halts why written rounds' marks' line' keeper' output' outs' keeps' stop' closed ends stops text outs keeps same = record {
    events = RoundsStopped (proxy_cause_of why) written ∷ run.events;
    has = record {
      may = ((run.stands.left, inl is_open), run.has.may);
      so = rounds_stopped plan start st2 own seen run.has.so (proxy_cause_of why) written rounds' marks' line' keeper' output' outs' keeps' stop' closed ends made_open
          (inl (record { why = why; why_is = refl; stops = stops })) text outs keeps same;
    };
    stands = record { left = record { none_in_hand = run.stands.left.none_in_hand; none_unsettled = run.stands.left.none_unsettled }; uncounted = run.stands.uncounted; phase = run.stands.phase; now = run.stands.now; turns = run.stands.turns };
    none_over = run.none_over;
  }

-- which objects failed when a round stopped so
pub halts_outs : (why : RunStop) (before after : ℕ) → (why ≡ run_stop.WriteFault → Rose before after) → ((why ≡ run_stop.WriteFault → ⊥) → after ≡ before)
    → HasOutputFailed (is_output_fault (proxy_cause_of why)) before after
halts_outs run_stop.WriteFault before after failed kept = failed refl
halts_outs run_stop.KeepFault before after failed kept = kept (λ e. cc)
halts_outs run_stop.OutOfMemory before after failed kept = kept (λ e. cc)

pub halts_keeps : (why : RunStop) (before after : ℕ) → (why ≡ run_stop.KeepFault → Rose before after) → ((why ≡ run_stop.KeepFault → ⊥) → after ≡ before)
    → HasOutputFailed (is_keeper_fault (proxy_cause_of why)) before after
halts_keeps run_stop.WriteFault before after failed kept = kept (λ e. cc)
halts_keeps run_stop.KeepFault before after failed kept = failed refl
halts_keeps run_stop.OutOfMemory before after failed kept = kept (λ e. cc)
