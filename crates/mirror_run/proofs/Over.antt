-- A run with one more connection that is over, or that is put off, and with one more find that is begun.
use Rattle.std.proofs.Common.{◌≡◌, ◌+◌, ◌-◌, ℕ, List, [], ◌∷◌, ◌++◌, Bool, true, false, Option, Some, map, refl, sym, ap, ◌∙◌, subst}
use Rattle.std.specs.Prelude.{◌||◌, is_some}
use Rattle.client_line.specs.Lines.{LineView}
use Rattle.mirror_connections.specs.Open.{ConnectionsSeen, HasConnections}
use Rattle.mirror_connections.specs.Over.{DoorSeen, OverConnection}
use Rattle.mirror_finds.specs.Finds.{FindInTurn, FindsSeen, HasPassedFinds}
use Rattle.mirror_run.specs.Events.{LineEnd, stop_after_line, first_cause, is_cut_by_output, line_written}
use Rattle.mirror_run.specs.Events.LineEnd.{Whole, Cut}
use Rattle.mirror_run.specs.SoFar.{HasFailedSo, IsOpenFindOf, IsRunSo, MirrorOutside, MirrorOwn, RunStart, passing_start, waiting_of}
use Rattle.mirror_run.specs.State.{FinishedFind, MirrorState, Phase, StartedFind, WaitingFind}
use Rattle.mirror_run.specs.Steps.{PrintsLine}
use Rattle.mirror_run.specs.declared.plan.MirrorPlan.{MirrorPlan}
use Rattle.mirror_run.specs.declared.stop.MirrorStop.{MirrorStop}
use Rattle.mirror_run.specs.declared.stop.MirrorStop.TheVariants as stop
use Rattle.mirror_run.proofs.Facts.{failed_more, failed_twice, has_cause, printed_more}
use Rattle.sb_model.specs.declared.time.Moment.{Moment}
use Rattle.sb_outside.specs.Outside.{IfTold, Rose}
use Rattle.timed_sessions.specs.Told.{with_more}

line_stops : (stop : Option MirrorStop) (told : LineEnd) → is_some stop ≡ true → is_some (stop_after_line stop told) ≡ true
line_stops stop Whole is = is
line_stops stop (Cut why front) is = has_cause stop why

pub none_come_still : (coming coming' : Option (List (List (List ℕ)))) → coming' ≡ coming → IfTold coming (Some []) → IfTold coming' (Some [])
none_come_still coming coming' same is = subst (λ (c : Option (List (List (List ℕ)))). IfTold c (Some [])) (sym same) is

failed_door : (was : Bool) (before between after : ℕ) → HasFailedSo was before between → Rose between after → Rose before after
failed_door true before between after first next = failed_twice before between after first next
failed_door false before between after first next = subst (λ (n : ℕ). Rose n after) first next

module _ (plan : MirrorPlan) (start : RunStart) (st : MirrorState) (own : MirrorOwn) (seen : MirrorOutside) (so : IsRunSo plan start st own seen) where
  -- ---- one that is over

  pub over_goes : (one : OverConnection) (told : LineEnd) (finds' : List FindInTurn) (one_open' : Option StartedFind) (over' : Option FinishedFind) (waiting' : List WaitingFind)
      (taken' : List (List (List ℕ))) (hand' : Bool) (phase' : Phase) (moments : List Moment) (now' : Moment) (read' : Option (List Moment))
      (ours : FindsSeen) (conns : ConnectionsSeen) (stop' : Option MirrorStop) (line' : LineView) (output' : Option (List ℕ)) (door' : DoorSeen) (count : ℕ)
      → PrintsLine one told own.stop stop' seen.output output' seen.faults.output count
      → HasPassedFinds plan.updates.target plan.updates.need_digest (passing_start start) finds' ours line'
      → HasConnections start.outside.door taken' (st.over ++ one ∷ []) conns door'
      → IsOpenFindOf conns.begun ours.opened one_open' → map waiting_of conns.waiting ≡ waiting'
      → (st.no_more ≡ true → IfTold door'.coming (Some [])) → line'.objects ≡ seen.finds.objects → IfTold read' (with_more start.outside.readings moments)
      → IsRunSo plan start (record st {
        readings = moments;
        now = now';
        finds = finds';
        find_open = one_open';
        find_over = over';
        waiting = waiting';
        taken = taken';
        in_hand = hand';
        over = st.over ++ one ∷ [];
        printed = st.printed ++ line_written one told;
        phase = phase';
        stop = stop_after_line st.stop told;
        output_failed = st.output_failed || is_cut_by_output told;
      })
      (record own { finds = ours; connections = conns; stop = stop' })
      (record seen { finds = line'; output = output'; readings = read'; door = door'; faults = record seen.faults { output = count } })
  over_goes one told finds' one_open' over' waiting' taken' hand' phase' moments now' read' ours conns stop' line' output' door' count prints finds connections find waiting none_come same read = record {
    is = record {
      places = so.is.places;
      round_open = so.is.round_open;
      more = so.is.more;
      halts = λ h. let halted = so.is.halts h in (line_stops st.stop told halted.0, halted.1);
      answered = so.is.answered;
      wait = so.is.wait;
      find = find;
      waiting = waiting;
      no_more = so.is.no_more;
      stop = prints.ends ∙ ap (λ (s : Option MirrorStop). stop_after_line s told) so.is.stop;
    };
    rounds = so.rounds;
    finds = finds;
    connections = connections;
    printed = printed_more start.outside.output seen.output output' st.printed (line_written one told) so.printed prints.written;
    readings = read;
    none_come = none_come;
    faults = record {
      output = failed_more st.output_failed (is_cut_by_output told) start.outside.faults.output seen.faults.output count so.faults.output prints.failed;
      keeper = so.faults.keeper;
      door = so.faults.door;
    };
    same_updates = so.same_updates;
    same_finds = same ∙ so.same_finds;
  }

  -- ---- one that is put off, or a find that is begun

  pub open_goes : (one_open' : Option StartedFind) (waiting' : List WaitingFind) (taken' : List (List (List ℕ))) (hand' : Bool) (phase' : Phase) (moments : List Moment) (now' : Moment) (read' : Option (List Moment))
      (ours : FindsSeen) (conns : ConnectionsSeen) (line' : LineView) (door' : DoorSeen)
      → HasPassedFinds plan.updates.target plan.updates.need_digest (passing_start start) st.finds ours line'
      → HasConnections start.outside.door taken' st.over conns door'
      → IsOpenFindOf conns.begun ours.opened one_open' → map waiting_of conns.waiting ≡ waiting'
      → (st.no_more ≡ true → IfTold door'.coming (Some [])) → line'.objects ≡ seen.finds.objects → IfTold read' (with_more start.outside.readings moments)
      → IsRunSo plan start (record st { readings = moments; now = now'; find_open = one_open'; waiting = waiting'; taken = taken'; in_hand = hand'; phase = phase' })
      (record own { finds = ours; connections = conns }) (record seen { finds = line'; readings = read'; door = door' })
  open_goes one_open' waiting' taken' hand' phase' moments now' read' ours conns line' door' finds connections find waiting none_come same read = record {
    is = record {
      places = so.is.places;
      round_open = so.is.round_open;
      more = so.is.more;
      halts = so.is.halts;
      answered = so.is.answered;
      wait = so.is.wait;
      find = find;
      waiting = waiting;
      no_more = so.is.no_more;
      stop = so.is.stop;
    };
    rounds = so.rounds;
    finds = finds;
    connections = connections;
    printed = so.printed;
    readings = read;
    none_come = none_come;
    faults = record { output = so.faults.output; keeper = so.faults.keeper; door = so.faults.door };
    same_updates = so.same_updates;
    same_finds = same ∙ so.same_finds;
  }

  -- ---- the turn goes on

  pub phase_goes : (phase' : Phase) → IsRunSo plan start (record st { phase = phase' }) own seen
  phase_goes phase' = record {
    is = record {
      places = so.is.places;
      round_open = so.is.round_open;
      more = so.is.more;
      halts = so.is.halts;
      answered = so.is.answered;
      wait = so.is.wait;
      find = so.is.find;
      waiting = so.is.waiting;
      no_more = so.is.no_more;
      stop = so.is.stop;
    };
    rounds = so.rounds;
    finds = so.finds;
    connections = so.connections;
    printed = so.printed;
    readings = so.readings;
    none_come = so.none_come;
    faults = record { output = so.faults.output; keeper = so.faults.keeper; door = so.faults.door };
    same_updates = so.same_updates;
    same_finds = so.same_finds;
  }

  pub turn_goes : (now' : Moment) (phase' : Phase) (readings' : Option (List Moment)) → IfTold readings' (with_more start.outside.readings (st.readings ++ now' ∷ []))
      → IsRunSo plan start (record st { turns = st.turns + 1; readings = st.readings ++ now' ∷ []; now = now'; phase = phase' }) own (record seen { readings = readings' })
  turn_goes now' phase' readings' told = record {
    is = record {
      places = so.is.places;
      round_open = so.is.round_open;
      more = so.is.more;
      halts = so.is.halts;
      answered = so.is.answered;
      wait = so.is.wait;
      find = so.is.find;
      waiting = so.is.waiting;
      no_more = so.is.no_more;
      stop = so.is.stop;
    };
    rounds = so.rounds;
    finds = so.finds;
    connections = so.connections;
    printed = so.printed;
    readings = told;
    none_come = so.none_come;
    faults = record { output = so.faults.output; keeper = so.faults.keeper; door = so.faults.door };
    same_updates = so.same_updates;
    same_finds = so.same_finds;
  }

  pub no_more_goes : (phase' : Phase) (door' : DoorSeen) → door' ≡ seen.door → IfTold seen.door.coming (Some [])
      → IsRunSo plan start (record st { no_more = true; phase = phase' }) (record own { no_more = true }) (record seen { door = door' })
  no_more_goes phase' door' same none = record {
    is = record {
      places = so.is.places;
      round_open = so.is.round_open;
      more = so.is.more;
      halts = so.is.halts;
      answered = so.is.answered;
      wait = so.is.wait;
      find = so.is.find;
      waiting = so.is.waiting;
      no_more = refl;
      stop = so.is.stop;
    };
    rounds = so.rounds;
    finds = so.finds;
    connections = subst (λ (d : DoorSeen). HasConnections start.outside.door st.taken st.over own.connections d) (sym same) so.connections;
    printed = so.printed;
    readings = so.readings;
    none_come = λ e. none_come_still seen.door.coming door'.coming (ap (λ (d : DoorSeen). d.coming) same) none;
    faults = record { output = so.faults.output; keeper = so.faults.keeper; door = so.faults.door };
    same_updates = so.same_updates;
    same_finds = so.same_finds;
  }

  pub door_fails : (phase' : Phase) (door' : DoorSeen) (count : ℕ) (stop' : Option MirrorStop) → door' ≡ seen.door → Rose seen.faults.door count → stop' ≡ first_cause own.stop stop.DoorFault
      → IsRunSo plan start (record st { phase = phase'; stop = first_cause st.stop stop.DoorFault; door_failed = true }) (record own { stop = stop' })
      (record seen { door = door'; faults = record seen.faults { door = count } })
  door_fails phase' door' count stop' same rose ends = record {
    is = record {
      places = so.is.places;
      round_open = so.is.round_open;
      more = so.is.more;
      halts = λ h. (has_cause st.stop stop.DoorFault, (so.is.halts h).1);
      answered = so.is.answered;
      wait = so.is.wait;
      find = so.is.find;
      waiting = so.is.waiting;
      no_more = so.is.no_more;
      stop = ends ∙ ap (λ (s : Option MirrorStop). first_cause s stop.DoorFault) so.is.stop;
    };
    rounds = so.rounds;
    finds = so.finds;
    connections = subst (λ (d : DoorSeen). HasConnections start.outside.door st.taken st.over own.connections d) (sym same) so.connections;
    printed = so.printed;
    readings = so.readings;
    none_come = λ e. none_come_still seen.door.coming door'.coming (ap (λ (d : DoorSeen). d.coming) same) (so.none_come e);
    faults = record {
      output = so.faults.output;
      keeper = so.faults.keeper;
      door = failed_door st.door_failed start.outside.faults.door seen.faults.door count so.faults.door rose;
    };
    same_updates = so.same_updates;
    same_finds = so.same_finds;
  }
