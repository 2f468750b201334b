-- What is left of a run when a connection was taken.
use Rattle.std.proofs.Common.{◌≡◌, ◌<◌, ◌+◌, ◌-◌, ℕ, List, [], ◌∷◌, ◌++◌, true, false, Option, Some, None, length, map, refl, sym, ap, ◌∙◌, subst, inl, inr, arith}
use Rattle.std.proofs.lemmas.List.{length-append, length-map, map-append}
use Rattle.std.proofs.lemmas.List.Elements.{All-head, All-tail}
use Rattle.std.specs.Prelude.{◌⊎◌, All, option_map, slice_get}
use Rattle.http_serving.specs.declared.ends.ConnectionEnd.{ConnectionEnd}
use Rattle.http_serving.specs.declared.ends.ConnectionEnd.TheVariants as end
use Rattle.mirror_connections.specs.Answered.{AnswersOne, GivesWire, IsAnsweredAtOnce, PutsOff}
use Rattle.mirror_connections.specs.Open.{ConnectionsSeen, IsFindWaiting, WireSeen, most_waiting}
use Rattle.mirror_connections.specs.Over.{DoorSeen, OverConnection}
use Rattle.mirror_run.specs.Allowed.{HasNothingLeft}
use Rattle.mirror_run.specs.Events.{after_events, first_cause}
use Rattle.mirror_run.specs.Events.MirrorEvent.{ConnectionTaken, DoorFailed, FindPutOff, NoMoreCame, NothingCame, TakenOver}
use Rattle.mirror_run.specs.SoFar.{MirrorOutside, MirrorOwn, RunStart, waiting_of}
use Rattle.mirror_run.specs.State.{MirrorState, WaitingFind, before_all}
use Rattle.mirror_run.specs.State.Phase.{Between, Ending}
use Rattle.mirror_run.specs.Steps.{RunsSo, run_at, served_now}
use Rattle.mirror_run.specs.declared.plan.MirrorPlan.{MirrorPlan}
use Rattle.mirror_run.specs.declared.stop.MirrorStop.{MirrorStop}
use Rattle.mirror_run.specs.declared.stop.MirrorStop.TheVariants as cause
use Rattle.mirror_run.proofs.FindSteps.{served_is}
use Rattle.mirror_run.proofs.Giving.{Prints}
use Rattle.mirror_run.proofs.Over.{door_fails, no_more_goes, none_come_still, open_goes, over_goes, phase_goes}
use Rattle.mirror_serving.specs.declared.fate.FindFate.TheVariants.{NotSent}
use Rattle.sb_model.specs.declared.time.Moment.{Moment}
use Rattle.sb_outside.specs.Outside.{IfTold, Rose, with_entry}
use Rattle.timed_sessions.specs.Told.{with_more}
use Rattle.mirror_run.proofs.Facts.{told_more}

get_last : {A : Type 0} (xs : List A) (y : A) → slice_get (xs ++ y ∷ []) (length xs) ≡ Some y
get_last [] y = refl
get_last (first ∷ xs) y = get_last xs y

last_of : {A : Type 0} (P : A → Type 0) (xs : List A) (y : A) → All P (xs ++ y ∷ []) → P y
last_of P [] y all = All-head P y [] all
last_of P (x ∷ xs) y all = last_of P xs y (All-tail P x (xs ++ y ∷ []) all)

-- a door that gave a connection had not told that none is to come
none_contradicts : (before after : Option (List (List (List ℕ)))) (pieces : List (List ℕ)) → before ≡ option_map (λ later. pieces ∷ later) after → IfTold before (Some []) → IfTold after (Some [])
none_contradicts before None pieces came none = tt
none_contradicts before (Some later) pieces came none = let h = subst (λ (b : Option (List (List (List ℕ)))). IfTold b (Some [])) came none in cc

module _ (plan : MirrorPlan) (start : RunStart) (now : Moment) (turns : ℕ) (own : MirrorOwn) (seen : MirrorOutside) (before : DoorSeen) (read : Option (List Moment)) (heard : Moment) (pieces : List (List ℕ)) (wire : WireSeen)
    (run : RunsSo (run_at Ending now turns) plan start own (record seen { door = before; readings = read })) (reads : IfTold seen.readings (with_entry read heard)) (gives : GivesWire pieces before seen.door wire)
    (goes_on : own.stop ≡ None) (more : own.connections.taken < plan.connections)
  where
    abbrev pub st : MirrorState
    st = after_events start.first before_all run.events

    count : own.connections.taken ≡ length st.taken
    count = run.has.so.connections.count

    may_take : HasNothingLeft st × (st.phase ≡ Ending) × (st.stop ≡ None) × (length st.taken < plan.connections)
    may_take = (run.stands.left, run.stands.phase, sym run.has.so.is.stop ∙ goes_on, subst (λ (n : ℕ). n < plan.connections) count more)

    one_longer : length (st.taken ++ pieces ∷ []) ≡ length st.taken + 1
    one_longer = length-append st.taken (pieces ∷ [])

    still_none : (coming' : Option (List (List (List ℕ)))) → coming' ≡ seen.door.coming → st.no_more ≡ true → IfTold coming' (Some [])
    still_none coming' same e = none_come_still seen.door.coming coming' same (none_contradicts before.coming seen.door.coming pieces gives.came (run.has.so.none_come e))

    read_now : IfTold seen.readings (with_more start.outside.readings (st.readings ++ heard ∷ []))
    read_now = told_more start.outside.readings read seen.readings st.readings heard run.has.so.readings reads

    pub put_off_now : (conns : ConnectionsSeen) (door' : DoorSeen) → door'.coming ≡ seen.door.coming → length own.connections.waiting < most_waiting
        → PutsOff heard start.outside.door (st.taken ++ pieces ∷ []) st.over own.connections conns door'
        → RunsSo (run_at Between heard turns) plan start (record own { connections = conns }) (record seen { door = door' })
    put_off_now conns door' coming room puts =
        let last_waits : IsFindWaiting (st.taken ++ pieces ∷ []) puts.last =
        last_of (IsFindWaiting (st.taken ++ pieces ∷ [])) own.connections.waiting puts.last (subst (All (IsFindWaiting (st.taken ++ pieces ∷ []))) puts.waits puts.has.waiting) in
        let placed : length (st.taken ++ pieces ∷ []) - 1 ≡ puts.last.find.number = omega (arith, one_longer, puts.number, count) in
        record {
          events = FindPutOff puts.last.asked ∷ ConnectionTaken pieces heard ∷ run.events;
          has = record {
            may = (
              record {
                in_hand = refl;
                room = subst (λ (n : ℕ). n < most_waiting) (sym (length-map own.connections.waiting waiting_of) ∙ ap length run.has.so.is.waiting) room;
                one = puts.last;
                asks = refl;
                last = omega (arith, one_longer, puts.number, count);
                heard = last_waits;
              },
              (may_take, run.has.may),
            );
            so = open_goes plan start st own (record seen { door = before; readings = read }) run.has.so st.find_open
                (st.waiting ++ record { number = length (st.taken ++ pieces ∷ []) - 1; asked = puts.last.asked; heard = heard } ∷ []) (st.taken ++ pieces ∷ []) false Between (st.readings ++ heard ∷ []) heard seen.readings
                own.finds conns seen.finds door' run.has.so.finds puts.has (rw puts.begun run.has.so.is.find)
                (ap (map waiting_of) puts.waits ∙ map-append waiting_of own.connections.waiting (puts.last ∷ []) ∙ ap (λ (ws : List WaitingFind). ws ++ waiting_of puts.last ∷ []) run.has.so.is.waiting
                ∙ ap (λ (w : WaitingFind). st.waiting ++ w ∷ []) (waiting_as placed puts.heard))
                (still_none door'.coming coming) refl read_now;
          };
          stands = record { left = record { none_taken = refl; none_over = run.stands.left.none_over }; phase = refl; now = refl; turns = run.stands.turns };
        }
      where
        waiting_as : length (st.taken ++ pieces ∷ []) - 1 ≡ puts.last.find.number → puts.last.heard ≡ heard
            → waiting_of puts.last ≡ record { number = length (st.taken ++ pieces ∷ []) - 1; asked = puts.last.asked; heard = heard }
        waiting_as placed same = cc

    pub answered_now : (conns : ConnectionsSeen) (door' : DoorSeen) (how : ConnectionEnd) (stop' : Option MirrorStop) (output' : Option (List ℕ)) (faults' : ℕ)
        → door'.coming ≡ seen.door.coming → conns.begun ≡ own.connections.begun → conns.waiting ≡ own.connections.waiting
        → IsAnsweredAtOnce own.connections.waiting how wire.left
        → AnswersOne (length st.taken) (served_now own NotSent) how start.outside.door (st.taken ++ pieces ∷ []) st.over conns door'
        → ((one : OverConnection) → one.number ≡ own.connections.taken → one.how ≡ how → Prints one own.stop stop' seen.output output' seen.faults.output faults')
        → RunsSo (run_at Between heard turns) plan start (record own { connections = conns; stop = stop' }) (record seen { output = output'; door = door'; faults = record seen.faults { output = faults' } })
    answered_now conns door' how stop' output' faults' coming begun waiting at_once answers prints =
        let told = prints answers.one (answers.number_is ∙ sym count) answers.how_is in
        record {
          events = TakenOver answers.one told.0 ∷ ConnectionTaken pieces heard ∷ run.events;
          has = record {
            may = (
              (
                record {
                  in_hand = refl;
                  last = omega (arith, one_longer, answers.number_is);
                  by_state = answers.server_is ∙ served_is plan start st own (record seen { door = before; readings = read }) NotSent run.has.so;
                  pieces = pieces;
                  gave = subst (λ (n : ℕ). slice_get (st.taken ++ pieces ∷ []) n ≡ Some pieces) (sym answers.number_is) (get_last st.taken pieces);
                  received = at_once.received;
                  left = wire.left;
                  rest = at_once.rest;
                  given = gives.fresh.remains;
                  hears = at_once.hears;
                  because = because_of at_once.because answers.one answers.how_is;
                },
                told.1.is_told,
              ),
              (may_take, run.has.may),
            );
            so = over_goes plan start st own (record seen { door = before; readings = read }) run.has.so answers.one told.0 st.finds st.find_open st.find_over st.waiting (st.taken ++ pieces ∷ []) false Between (st.readings ++ heard ∷ []) heard seen.readings
                own.finds conns stop' seen.finds output' door' faults' told.1 run.has.so.finds answers.has (rw begun run.has.so.is.find) (ap (map waiting_of) waiting ∙ run.has.so.is.waiting)
                (still_none door'.coming coming) refl read_now;
          };
          stands = record { left = record { none_taken = refl; none_over = run.stands.left.none_over }; phase = refl; now = refl; turns = run.stands.turns };
        }
      where
        because_of : {X : Type 0} → (X ⊎ (length own.connections.waiting ≡ most_waiting) ⊎ (how ≡ end.OutOfMemory)) → (one : OverConnection) → one.how ≡ how
            → X ⊎ (length st.waiting ≡ most_waiting) ⊎ (one.how ≡ end.OutOfMemory)
        because_of (inl x) one is = inl x
        because_of (inr (inl full)) one is = inr (inl (sym (ap length run.has.so.is.waiting) ∙ length-map own.connections.waiting waiting_of ∙ full))
        because_of (inr (inr how)) one is = inr (inr (is ∙ how))

module _ (plan : MirrorPlan) (start : RunStart) (now : Moment) (turns : ℕ) (own : MirrorOwn) (seen : MirrorOutside) (run : RunsSo (run_at Ending now turns) plan start own seen) where
  abbrev pub st3 : MirrorState
  st3 = after_events start.first before_all run.events

  pub nothing_came : (door' : DoorSeen) → door' ≡ seen.door → RunsSo (run_at Between now turns) plan start own (record seen { door = door' })
  nothing_came door' same = subst (λ (d : DoorSeen). RunsSo (run_at Between now turns) plan start own (record seen { door = d })) (sym same) (record {
    events = NothingCame ∷ run.events;
    has = record { may = ((run.stands.left, run.stands.phase), run.has.may); so = phase_goes plan start st3 own seen run.has.so Between };
    stands = record { left = record { none_taken = run.stands.left.none_taken; none_over = run.stands.left.none_over }; phase = refl; now = run.stands.now; turns = run.stands.turns };
  })

  pub no_more_came : (door' : DoorSeen) → door' ≡ seen.door → IfTold seen.door.coming (Some []) → RunsSo (run_at Between now turns) plan start (record own { no_more = true }) (record seen { door = door' })
  no_more_came door' same none = record {
    events = NoMoreCame ∷ run.events;
    has = record { may = ((run.stands.left, run.stands.phase), run.has.may); so = no_more_goes plan start st3 own seen run.has.so Between door' same none };
    stands = record { left = record { none_taken = run.stands.left.none_taken; none_over = run.stands.left.none_over }; phase = refl; now = run.stands.now; turns = run.stands.turns };
  }

  pub door_failed_now : (door' : DoorSeen) (count : ℕ) (stop' : Option MirrorStop) → door' ≡ seen.door → Rose seen.faults.door count → stop' ≡ first_cause own.stop cause.DoorFault
      → RunsSo (run_at Between now turns) plan start (record own { stop = stop' }) (record seen { door = door'; faults = record seen.faults { door = count } })
  door_failed_now door' count stop' same rose ends = record {
    events = DoorFailed ∷ run.events;
    has = record { may = ((run.stands.left, run.stands.phase), run.has.may); so = door_fails plan start st3 own seen run.has.so Between door' count stop' same rose ends };
    stands = record { left = record { none_taken = run.stands.left.none_taken; none_over = run.stands.left.none_over }; phase = refl; now = run.stands.now; turns = run.stands.turns };
  }
