-- A run with one more step of its rounds.
use Rattle.std.proofs.Common.{◌≡◌, ◌<◌, ◌+◌, ℕ, List, [], ◌∷◌, ◌++◌, Bool, true, false, Option, Some, None, length, map, refl, sym, ap, ◌∙◌, subst, inl, inr}
use Rattle.std.proofs.lemmas.List.Folds.{list_any-append}
use Rattle.std.specs.Prelude.{◌⊎◌, ◌||◌, ◌&&◌, not, nat_le, is_some, if◌then◌else◌, Result, Ok, Err, is_ok}
use Rattle.client_line.specs.Lines.{LineView}
use Rattle.mirror_rounds.specs.Ended.{EndsMirrorRound, round_view}
use Rattle.mirror_rounds.specs.Rounds.{HasMadeRounds, MirrorSeen, lists_at_places}
use Rattle.mirror_rounds.specs.declared.rounds.MirrorRoundTold.{MirrorRoundTold}
use Rattle.mirror_run.specs.Events.{after_event, first_cause, is_keep_fault, is_write_fault, round_text}
use Rattle.mirror_run.specs.Events.MirrorEvent.{RoundBegun, RoundOver, RoundsStopped}
use Rattle.mirror_run.specs.SoFar.{AreRoundsSo, FaultsSeen, HasFailedSo, IsRunSo, MirrorOutside, MirrorOwn, RunStart, StopsBeforeRound, StopsInLastRound, rounds_start}
use Rattle.mirror_run.specs.State.{MirrorState, StoppedRounds, has_answer, lists_now, round_is_due, round_waits, told_wait}
use Rattle.mirror_run.specs.Steps.{own_round_is_due, is_due_at}
use Rattle.mirror_run.specs.declared.plan.MirrorPlan.{MirrorPlan}
use Rattle.mirror_run.specs.declared.stop.MirrorStop.{MirrorStop}
use Rattle.mirror_run.specs.declared.stop.MirrorStop.TheVariants as stop
use Rattle.mirror_run.proofs.Facts.{due_is, failed_more, has_cause, not_stopped, places_pinned, printed_more}
use Rattle.sb_model.specs.declared.time.Moment.{Moment}
use Rattle.sb_outside.specs.Outside.{appended}
use Rattle.sb_round.specs.Round.{Round, taken_from}
use Rattle.sb_round.specs.Rounds.{round_updates}
use Rattle.sb_round.specs.Run.{lists_after}
use Rattle.sb_round.specs.declared.rounds.RoundFault.{RoundFault}
use Rattle.update_client.specs.Held.{Held}
use Rattle.update_messages.specs.declared.response.FetchResponse.{FetchResponse}
use Rattle.update_run.specs.Printed.{round_end, told_end}
use Rattle.update_run.specs.Saved.{Keeping}

or_false : (b : Bool) → (b || false) ≡ b
or_false true = refl
or_false false = refl

answered_taken : (lists : List Held) (answer : Result FetchResponse RoundFault) → is_ok (taken_from lists answer) ≡ is_ok answer
answered_taken lists (Ok message) = refl
answered_taken lists (Err fault) = refl

taken_answered : (lists : List Held) (round : Round) → is_ok (round_end lists round).taken ≡ is_ok round.answer
taken_answered lists round = answered_taken lists round.answer

module _ (plan : MirrorPlan) (start : RunStart) (st : MirrorState) (own : MirrorOwn) (seen : MirrorOutside) (so : IsRunSo plan start st own seen) where
  pub none_stopped : ((own.stop ≡ None) ⊎ (st.round_open ≡ true)) → st.stopped ≡ None
  none_stopped (inl e) = not_stopped st.stopped st.stop st.round_open so.is.halts (inl (sym so.is.stop ∙ e))
  none_stopped (inr e) = not_stopped st.stopped st.stop st.round_open so.is.halts (inr e)

  pub made_now : st.stopped ≡ None → HasMadeRounds plan.updates (rounds_start start) st.rounds own.rounds seen.updates seen.keeper
  made_now none = subst (λ (o : Option StoppedRounds). AreRoundsSo plan start st.rounds o own.rounds seen.updates seen.keeper) none so.rounds

  -- the lists and the state of waiting are those to which the rounds led
  pub lists_are : st.stopped ≡ None → own.rounds.state.lists ≡ lists_now start.first st
  lists_are none = (made_now none).made.lists_are

  pub due_now : st.stopped ≡ None → (now : Moment) → st.now ≡ now → own_round_is_due plan.updates.rounds own now ≡ round_is_due plan.updates.rounds start.first st
  due_now none now is =
      ap (λ (at : Moment). is_due_at (if is_some own.rounds.opened || nat_le plan.updates.rounds own.rounds.over then None else Some at) now) (ap (λ w. w.allowed_at) (made_now none).made.waits_are)
      ∙ ap (λ (o : Bool). is_due_at (if o || nat_le plan.updates.rounds own.rounds.over then None else Some (round_waits start.first st).allowed_at) now) so.is.round_open
      ∙ ap (λ (n : ℕ). is_due_at (if st.round_open || nat_le plan.updates.rounds n then None else Some (round_waits start.first st).allowed_at) now) (made_now none).count
      ∙ due_is st.round_open (nat_le plan.updates.rounds (length st.rounds)) (round_waits start.first st).allowed_at now
      ∙ ap (λ (m : Moment). not st.round_open && not (nat_le plan.updates.rounds (length st.rounds)) && nat_le (round_waits start.first st).allowed_at.0 m.0) (sym is)

  -- ---- a round is begun

  pub round_begun : (rounds' : MirrorSeen) (line' : LineView) → st.stopped ≡ None → rounds'.places ≡ own.rounds.places → is_some rounds'.opened ≡ true
      → length st.rounds < plan.updates.rounds → HasMadeRounds plan.updates (rounds_start start) st.rounds rounds' line' seen.keeper → line'.objects ≡ seen.updates.objects
      → IsRunSo plan start (after_event start.first st RoundBegun) (record own { rounds = rounds' }) (record seen { updates = line' })
  round_begun rounds' line' none places opened few made same = record {
    is = record {
      places = places ∙ so.is.places;
      round_open = opened;
      more = λ e. few;
      halts = λ h. let n : is_some st.stopped ≡ false = ap is_some none in cc;
      answered = so.is.answered;
      wait = so.is.wait;
      find = so.is.find;
      waiting = so.is.waiting;
      no_more = so.is.no_more;
      stop = so.is.stop;
    };
    rounds = subst (λ (o : Option StoppedRounds). AreRoundsSo plan start st.rounds o rounds' line' seen.keeper) (sym none) made;
    finds = so.finds;
    connections = so.connections;
    printed = so.printed;
    readings = so.readings;
    none_come = so.none_come;
    faults = record { output = so.faults.output; keeper = so.faults.keeper; door = so.faults.door };
    same_updates = same ∙ so.same_updates;
    same_finds = so.same_finds;
  }

  -- ---- no further round is made

  pub rounds_stopped : (why : MirrorStop) (written : List ℕ) (rounds' : MirrorSeen) (line' : LineView) (keeper' : Keeping) (output' : Option (List ℕ)) (faults' : FaultsSeen) (stop' : Option MirrorStop)
      → rounds'.places ≡ own.rounds.places → rounds'.opened ≡ None → stop' ≡ first_cause own.stop why
      → (made : HasMadeRounds plan.updates (rounds_start start) st.rounds own.rounds seen.updates seen.keeper)
      → (StopsInLastRound plan start st.rounds own.rounds (record { why = why; before = st.printed; written = written }) (round_view seen.updates seen.keeper seen.output) (round_view line' keeper' output')
      ⊎ StopsBeforeRound plan own.rounds (record { why = why; before = st.printed; written = written }) (round_view seen.updates seen.keeper seen.output) (round_view line' keeper' output'))
      → output' ≡ appended seen.output written
      → HasFailedSo (is_write_fault why) seen.faults.output faults'.output → HasFailedSo (is_keep_fault why) seen.faults.keeper faults'.keeper → faults'.door ≡ seen.faults.door
      → line'.objects ≡ seen.updates.objects
      → IsRunSo plan start (after_event start.first st (RoundsStopped why written)) (record own { rounds = rounds'; stop = stop' })
      (record seen { updates = line'; keeper = keeper'; output = output'; faults = faults' })
  rounds_stopped why written rounds' line' keeper' output' faults' stop' places closed ends made stops text outs keeps doors same =
      let printed' : output' ≡ appended start.outside.output (st.printed ++ written) = printed_more start.outside.output seen.output output' st.printed written so.printed text in
      record {
        is = record {
          places = places ∙ so.is.places;
          round_open = ap is_some closed;
          more = λ e. cc;
          halts = λ h. (has_cause st.stop why, refl);
          answered = so.is.answered;
          wait = so.is.wait;
          find = so.is.find;
          waiting = so.is.waiting;
          no_more = so.is.no_more;
          stop = ends ∙ ap (λ (s : Option MirrorStop). first_cause s why) so.is.stop;
        };
        rounds = record {
          before = own.rounds;
          line_then = seen.updates;
          keeper_then = seen.keeper;
          made = made;
          stops = subst (λ (o : Option (List ℕ)).
              StopsInLastRound plan start st.rounds own.rounds (record { why = why; before = st.printed; written = written }) (round_view seen.updates seen.keeper (appended start.outside.output st.printed)) (round_view line' keeper' o)
              ⊎ StopsBeforeRound plan own.rounds (record { why = why; before = st.printed; written = written }) (round_view seen.updates seen.keeper (appended start.outside.output st.printed)) (round_view line' keeper' o))
              printed'
              (subst (λ (o : Option (List ℕ)).
              StopsInLastRound plan start st.rounds own.rounds (record { why = why; before = st.printed; written = written }) (round_view seen.updates seen.keeper o) (round_view line' keeper' output')
              ⊎ StopsBeforeRound plan own.rounds (record { why = why; before = st.printed; written = written }) (round_view seen.updates seen.keeper o) (round_view line' keeper' output'))
              so.printed stops);
        };
        finds = so.finds;
        connections = so.connections;
        printed = printed';
        readings = so.readings;
        none_come = so.none_come;
        faults = record {
          output = failed_more st.output_failed (is_write_fault why) start.outside.faults.output seen.faults.output faults'.output so.faults.output outs;
          keeper = failed_more st.keeper_failed (is_keep_fault why) start.outside.faults.keeper seen.faults.keeper faults'.keeper so.faults.keeper keeps;
          door = subst (λ (n : ℕ). HasFailedSo st.door_failed start.outside.faults.door n) (sym doors) so.faults.door;
        };
        same_updates = same ∙ so.same_updates;
        same_finds = so.same_finds;
      }

  -- ---- a round is ended

  pub round_over : (told : MirrorRoundTold) (rounds' : MirrorSeen) (line' : LineView) (keeper' : Keeping) (output' : Option (List ℕ)) (wait' : ℕ) (answered' : Bool) → st.stopped ≡ None
      → (ends : EndsMirrorRound plan.updates (rounds_start start) st.rounds own.rounds rounds' (round_view seen.updates seen.keeper seen.output) (round_view line' keeper' output') told)
      → answered' ≡ (own.answered || told.answered) → wait' ≡ told_wait plan.wait answered' rounds'.state.lists
      → line'.objects ≡ seen.updates.objects
      → IsRunSo plan start (after_event start.first st (RoundOver ends.round)) (record own { rounds = rounds'; wait = wait'; answered = answered' })
      (record seen { updates = line'; keeper = keeper'; output = output' })
  round_over told rounds' line' keeper' output' wait' answered' none ends answers waits same =
      let answered_is : answered' ≡ has_answer (st.rounds ++ ends.round ∷ []) =
      answers ∙ ap (λ (b : Bool). b || told.answered) so.is.answered
      ∙ ap (λ (b : Bool). has_answer st.rounds || b) (ends.told_is.answered ∙ taken_answered own.rounds.state.lists ends.round ∙ sym (or_false (is_ok ends.round.answer)))
      ∙ sym (list_any-append (λ (round : Round). is_ok round.answer) st.rounds (ends.round ∷ [])) in
      record {
        is = record {
          places = places_pinned rounds'.places start.first.epoch (lists_at_places start.first.client.lists (st.rounds ++ ends.round ∷ [])) ends.has.epoch ends.has.places;
          round_open = ap is_some ends.closed;
          more = λ e. cc;
          halts = λ h. let n : is_some st.stopped ≡ false = ap is_some none in cc;
          answered = answered_is;
          wait = waits ∙ ap (λ (b : Bool). told_wait plan.wait b rounds'.state.lists) answered_is ∙ ap (λ (ls : List Held). told_wait plan.wait (has_answer (st.rounds ++ ends.round ∷ [])) ls) ends.has.made.lists_are;
          find = so.is.find;
          waiting = so.is.waiting;
          no_more = so.is.no_more;
          stop = so.is.stop;
        };
        rounds = subst (λ (o : Option StoppedRounds). AreRoundsSo plan start (st.rounds ++ ends.round ∷ []) o rounds' line' keeper') (sym none) ends.has;
        finds = so.finds;
        connections = so.connections;
        printed = printed_more start.outside.output seen.output output' st.printed (round_text start.first.client.lists st.rounds ends.round) so.printed
            (ends.text
            ∙ ap (λ (ls : List Held). appended seen.output (told_end (length st.rounds + 1) ls (round_end own.rounds.state.lists ends.round))) ends.has.made.lists_are
            ∙ ap (λ (ls : List Held). appended seen.output (told_end (length st.rounds + 1) (lists_after start.first.client.lists (map round_updates (st.rounds ++ ends.round ∷ []))) (round_end ls ends.round))) (lists_are none));
        readings = so.readings;
        none_come = so.none_come;
        faults = record { output = so.faults.output; keeper = so.faults.keeper; door = so.faults.door };
        same_updates = same ∙ so.same_updates;
        same_finds = so.same_finds;
      }
