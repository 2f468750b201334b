-- What the steps of rounds leave of a run.
use Rattle.std.proofs.Common.{◌≡◌, ◌<◌, ◌+◌, ℕ, List, [], ◌∷◌, Bool, true, false, Option, Some, None, length, refl, sym, ◌∙◌, subst, inl, inr}
use Rattle.std.proofs.lemmas.Bool.{leb-false}
use Rattle.std.specs.Prelude.{◌||◌, not, nat_le, is_some, if◌then◌else◌}
use Rattle.client_line.specs.Lines.{LineView}
use Rattle.mirror_rounds.specs.Ended.{EndsMirrorRound, RoundView, StopsMirrorRound, StopsMirrorTelling, round_view}
use Rattle.mirror_rounds.specs.Rounds.{HasMadeRounds, MirrorSeen, MirrorStart}
use Rattle.mirror_rounds.specs.declared.rounds.MirrorRoundTold.{MirrorRoundTold}
use Rattle.mirror_run.specs.Events.{after_events, first_cause, is_keep_fault, is_write_fault}
use Rattle.mirror_run.specs.Events.MirrorEvent.{RoundBegun, RoundOver, RoundsStopped}
use Rattle.mirror_run.specs.SoFar.{FaultsSeen, HasFailedSo, MirrorOutside, MirrorOwn, RunStart, cause_of, rounds_start}
use Rattle.mirror_run.specs.State.{MirrorState, before_all, round_is_due, told_wait}
use Rattle.mirror_run.specs.State.Phase.{Beginning}
use Rattle.mirror_run.specs.Steps.{RunAt, RunsSo, is_due_at, own_round_is_due, run_at}
use Rattle.mirror_run.specs.declared.plan.MirrorPlan.{MirrorPlan}
use Rattle.mirror_run.specs.declared.stop.MirrorStop.{MirrorStop}
use Rattle.mirror_run.specs.declared.stop.MirrorStop.TheVariants as stop
use Rattle.mirror_run.proofs.Facts.{appended_nothing}
use Rattle.mirror_run.proofs.RoundFacts.{due_now, made_now, none_stopped, round_begun, round_over, rounds_stopped}
use Rattle.sb_model.specs.declared.time.Moment.{Moment}
use Rattle.sb_outside.specs.Outside.{Rose, appended}
use Rattle.sb_round.specs.Round.{BreaksOff, Round}
use Rattle.update_client.specs.Held.{Held}
use Rattle.sb_round.specs.Printed.{round_lines}
use Rattle.sb_round.specs.declared.rounds.RoundEnd.{RoundEnd}
use Rattle.update_run.specs.Printed.{round_end}
use Rattle.update_run.specs.Saved.{Keeping}
use Rattle.update_run.specs.declared.plan.Plan.{Plan}
use Rattle.update_run.specs.declared.stop.RunStop.{RunStop}
use Rattle.update_run.specs.declared.stop.RunStop.TheVariants as run_stop

-- a round that is due is not the last but one, and none is open
due_few : (opened over : Bool) (at now : Moment) → is_due_at (if opened || over then None else Some at) now ≡ true → over ≡ false
due_few true over at now is = cc
due_few false true at now is = cc
due_few false false at now is = refl

due_closed : (opened over : Bool) (at now : Moment) → is_due_at (if opened || over then None else Some at) now ≡ true → opened ≡ false
due_closed true over at now is = cc
due_closed false over at now is = refl

closed_is : {A : Type 0} (opened : Option A) → is_some opened ≡ false → opened ≡ None
closed_is None is = refl
closed_is (Some a) is = cc

pub none_open : (most : ℕ) (own : MirrorOwn) (now : Moment) → own_round_is_due most own now ≡ true → own.rounds.opened ≡ None
none_open most own now is = closed_is own.rounds.opened (due_closed (is_some own.rounds.opened) (nat_le most own.rounds.over) own.rounds.state.waits.allowed_at now is)

module _ (plan : MirrorPlan) (start : RunStart) (now : Moment) (turns : ℕ) (own : MirrorOwn) (seen : MirrorOutside) (run : RunsSo (run_at Beginning now turns) plan start own seen)
    (goes_on : own.stop ≡ None) (due : own_round_is_due plan.updates.rounds own now ≡ true)
  where
    abbrev pub st : MirrorState
    st = after_events start.first before_all run.events

    none : st.stopped ≡ None
    none = none_stopped plan start st own seen run.has.so (inl goes_on)

    due_is : round_is_due plan.updates.rounds start.first st ≡ true
    due_is = sym (due_now plan start st own seen run.has.so none now run.stands.now) ∙ due

    few : length st.rounds < plan.updates.rounds
    few = subst (λ (n : ℕ). n < plan.updates.rounds) (made_now plan start st own seen run.has.so none).count
        (leb-false plan.updates.rounds own.rounds.over (due_few (is_some own.rounds.opened) (nat_le plan.updates.rounds own.rounds.over) own.rounds.state.waits.allowed_at now due))

    pub round_begins : (rounds' : MirrorSeen) (line' : LineView) → rounds'.places ≡ own.rounds.places → is_some rounds'.opened ≡ true
        → ((rounds : List Round) → HasMadeRounds plan.updates (rounds_start start) rounds own.rounds seen.updates seen.keeper → HasMadeRounds plan.updates (rounds_start start) rounds rounds' line' seen.keeper)
        → line'.objects ≡ seen.updates.objects
        → RunsSo (run_at Beginning now turns) plan start (record own { rounds = rounds' }) (record seen { updates = line' })
    round_begins rounds' line' places opened begun same = record {
      events = RoundBegun ∷ run.events;
      has = record {
        may = ((run.stands.left, run.stands.phase, sym run.has.so.is.stop ∙ goes_on, due_is), run.has.may);
        so = round_begun plan start st own seen run.has.so rounds' line' none places opened few (begun st.rounds (made_now plan start st own seen run.has.so none)) same;
      };
      stands = record { left = record { none_taken = run.stands.left.none_taken; none_over = run.stands.left.none_over }; phase = run.stands.phase; now = run.stands.now; turns = run.stands.turns };
    }

    pub round_refused : (line' : LineView) (stop' : Option MirrorStop) → stop' ≡ first_cause own.stop stop.OutOfMemory
        → BreaksOff own.rounds.state.lists own.rounds.state.waits plan.updates.options plan.updates.target seen.updates.told line'.told
        → line'.objects ≡ seen.updates.objects
        → RunsSo (run_at Beginning now turns) plan start (record own { stop = stop' }) (record seen { updates = line' })
    round_refused line' stop' ends breaks same = record {
      events = RoundsStopped stop.OutOfMemory [] ∷ run.events;
      has = record {
        may = ((run.stands.left, inr (run.stands.phase, due_is)), run.has.may);
        so = rounds_stopped plan start st own seen run.has.so stop.OutOfMemory [] own.rounds line' seen.keeper seen.output seen.faults stop' refl (none_open plan.updates.rounds own now due) ends
            (made_now plan start st own seen run.has.so none) (inr (record { memory = refl; nothing = refl; breaks = breaks; keeper = refl }))
            (sym (appended_nothing seen.output)) refl refl refl same;
      };
      stands = record { left = record { none_taken = run.stands.left.none_taken; none_over = run.stands.left.none_over }; phase = run.stands.phase; now = run.stands.now; turns = run.stands.turns };
    }

-- ---- a round that is ended

told_so : (why : RunStop) (number : ℕ) (end : RoundEnd) (lists : List Held) (before after : Keeping) (output output' : Option (List ℕ))
    → StopsMirrorTelling why number end lists before after output output' → (written : List ℕ) × (output' ≡ appended output written)
told_so run_stop.WriteFault number end lists before after output output' (inl stops) = (stops.1.taken, stops.1.has)
told_so run_stop.KeepFault number end lists before after output output' (inl stops) = (round_lines number end, stops.2)
told_so run_stop.OutOfMemory number end lists before after output output' (inl stops) = (stops.1.taken, stops.1.has)
told_so why number end lists before after output output' (inr stops) = (stops.2.taken, stops.2.has)

-- so much was written of the lines of a round in which the mirror stopped
pub written_so : (why : RunStop) (plan : Plan) (mirror : MirrorStart) (rounds : List Round) (before : MirrorSeen) (view view' : RoundView)
    → StopsMirrorRound why plan mirror rounds before view view' → (written : List ℕ) × (view'.output ≡ appended view.output written)
written_so why plan mirror rounds before view view' (inr stops) = ([], stops.output_kept ∙ sym (appended_nothing view.output))
written_so why plan mirror rounds before view view' (inl stops) =
    told_so why (length rounds + 1) (round_end before.state.lists stops.round) stops.state.lists view.keeper view'.keeper view.output view'.output stops.stops

module _ (plan : MirrorPlan) (start : RunStart) (at : RunAt) (own : MirrorOwn) (seen : MirrorOutside) (run : RunsSo at plan start own seen) (opened : is_some own.rounds.opened ≡ true) where
  abbrev pub st2 : MirrorState
  st2 = after_events start.first before_all run.events

  is_open : st2.round_open ≡ true
  is_open = sym run.has.so.is.round_open ∙ opened

  none2 : st2.stopped ≡ None
  none2 = none_stopped plan start st2 own seen run.has.so (inr is_open)

  pub made_open : HasMadeRounds plan.updates (rounds_start start) st2.rounds own.rounds seen.updates seen.keeper
  made_open = made_now plan start st2 own seen run.has.so none2

  pub more_left : own.rounds.over < plan.updates.rounds
  more_left = subst (λ (n : ℕ). n < plan.updates.rounds) (sym made_open.count) (run.has.so.is.more is_open)

  pub round_ends : (told : MirrorRoundTold) (rounds' : MirrorSeen) (line' : LineView) (keeper' : Keeping) (output' : Option (List ℕ)) (wait' : ℕ) (answered' : Bool)
      → EndsMirrorRound plan.updates (rounds_start start) st2.rounds own.rounds rounds' (round_view seen.updates seen.keeper seen.output) (round_view line' keeper' output') told
      → answered' ≡ (own.answered || told.answered) → wait' ≡ told_wait plan.wait answered' rounds'.state.lists → line'.objects ≡ seen.updates.objects
      → RunsSo at plan start (record own { rounds = rounds'; wait = wait'; answered = answered' }) (record seen { updates = line'; keeper = keeper'; output = output' })
  round_ends told rounds' line' keeper' output' wait' answered' ends answers waits same = record {
    events = RoundOver ends.round ∷ run.events;
    has = record {
      may = ((run.stands.left, is_open), run.has.may);
      so = round_over plan start st2 own seen run.has.so told rounds' line' keeper' output' wait' answered' none2 ends answers waits same;
    };
    stands = record { left = record { none_taken = run.stands.left.none_taken; none_over = run.stands.left.none_over }; phase = run.stands.phase; now = run.stands.now; turns = run.stands.turns };
  }

  pub round_halts : (why : RunStop) (written : List ℕ) (rounds' : MirrorSeen) (line' : LineView) (keeper' : Keeping) (output' : Option (List ℕ)) (faults' : FaultsSeen) (stop' : Option MirrorStop)
      → rounds'.places ≡ own.rounds.places → rounds'.opened ≡ None → stop' ≡ first_cause own.stop (cause_of why)
      → StopsMirrorRound why plan.updates (rounds_start start) st2.rounds own.rounds (round_view seen.updates seen.keeper seen.output) (round_view line' keeper' output')
      → output' ≡ appended seen.output written
      → HasFailedSo (is_write_fault (cause_of why)) seen.faults.output faults'.output → HasFailedSo (is_keep_fault (cause_of why)) seen.faults.keeper faults'.keeper → faults'.door ≡ seen.faults.door
      → line'.objects ≡ seen.updates.objects
      → RunsSo at plan start (record own { rounds = rounds'; stop = stop' }) (record seen { updates = line'; keeper = keeper'; output = output'; faults = faults' })
  round_halts why written rounds' line' keeper' output' faults' stop' places closed ends stops text outs keeps doors same = record {
    events = RoundsStopped (cause_of why) written ∷ run.events;
    has = record {
      may = ((run.stands.left, inl is_open), run.has.may);
      so = rounds_stopped plan start st2 own seen run.has.so (cause_of why) written rounds' line' keeper' output' faults' stop' places closed ends made_open
          (inl (record { why = why; why_is = refl; stops = stops })) text outs keeps doors same;
    };
    stands = record { left = record { none_taken = run.stands.left.none_taken; none_over = run.stands.left.none_over }; phase = run.stands.phase; now = run.stands.now; turns = run.stands.turns };
  }

-- which objects failed when a round stopped so
pub halts_outs : (why : RunStop) (before after : ℕ) → (why ≡ run_stop.WriteFault → Rose before after) → ((why ≡ run_stop.WriteFault → ⊥) → after ≡ before)
    → HasFailedSo (is_write_fault (cause_of why)) before after
halts_outs run_stop.WriteFault before after failed kept = failed refl
halts_outs run_stop.KeepFault before after failed kept = kept (λ e. cc)
halts_outs run_stop.OutOfMemory before after failed kept = kept (λ e. cc)

pub halts_keeps : (why : RunStop) (before after : ℕ) → (why ≡ run_stop.KeepFault → Rose before after) → ((why ≡ run_stop.KeepFault → ⊥) → after ≡ before)
    → HasFailedSo (is_keep_fault (cause_of why)) before after
halts_keeps run_stop.WriteFault before after failed kept = kept (λ e. cc)
halts_keeps run_stop.KeepFault before after failed kept = failed refl
halts_keeps run_stop.OutOfMemory before after failed kept = kept (λ e. cc)
