-- What the steps of finds leave of a run.
use Rattle.std.proofs.Common.{◌≡◌, ◌+◌, ◌-◌, ℕ, List, [], ◌∷◌, ◌++◌, true, false, Option, Some, None, map, refl, sym, ap, ◌∙◌, subst, inl}
use Rattle.client_line.specs.Lines.{LineView}
use Rattle.http_serving.specs.declared.ends.ConnectionEnd.{ConnectionEnd}
use Rattle.http_serving.specs.declared.ends.ConnectionEnd.TheVariants as end
use Rattle.mirror_connections.specs.Open.{ConnectionsSeen, FindSeen, HasConnections, WaitingSeen}
use Rattle.mirror_connections.specs.Over.{OverConnection}
use Rattle.mirror_finds.specs.Finds.{FindInTurn, FindsSeen, HasPassedFinds}
use Rattle.mirror_finds.specs.declared.finds.OpenFind.{OpenFind}
use Rattle.mirror_places.specs.Places.{Places}
use Rattle.mirror_run.specs.Allowed.{IsAnsweredByFind, MayNotBeSent, asked_by_find, states_in}
use Rattle.mirror_run.specs.Events.{after_events, started_first, without_first}
use Rattle.mirror_run.specs.Events.MirrorEvent.{FindAnswered, FindBegun, FindOver, FirstRefused}
use Rattle.mirror_run.specs.SoFar.{IsOpenFindOf, IsRunSo, MirrorOutside, MirrorOwn, RunStart, passing_start, waiting_of}
use Rattle.mirror_run.specs.State.{MirrorState, StartedFind, before_all, find_waits, lists_now, places_now, wait_now, waited_long}
use Rattle.mirror_run.specs.State.Phase.{Beginning}
use Rattle.mirror_run.specs.Steps.{GivesFirst, GivesOne, MayBegin, RunAt, RunsSo, given_so, run_at, served_now}
use Rattle.mirror_run.specs.declared.plan.MirrorPlan.{MirrorPlan}
use Rattle.mirror_run.proofs.Over.{none_come_still, open_goes, over_goes}
use Rattle.mirror_run.proofs.RoundFacts.{lists_are, none_stopped}
use Rattle.mirror_serving.specs.Response.{MirrorServed}
use Rattle.mirror_serving.specs.declared.fate.FindFate.{FindFate}
use Rattle.mirror_serving.specs.declared.fate.FindFate.TheVariants.{NotSent}
use Rattle.sb_model.specs.declared.time.Moment.{Moment}
use Rattle.update_client.specs.Held.{Held, tokens_of}
use Rattle.wait_rules.specs.Waits.{may_send_at}

served_with : Places → ℕ → FindFate → MirrorServed
served_with places wait fate = record { places = places; wait = wait; fate = fate }

pub served_is : (plan : MirrorPlan) (start : RunStart) (st : MirrorState) (own : MirrorOwn) (seen : MirrorOutside) (fate : FindFate) → IsRunSo plan start st own seen
    → served_now own fate ≡ record { places = places_now start.first st; wait = wait_now plan start.first st; fate = fate }
unfolding served_with
served_is plan start st own seen fate so =
    ap (λ (p : Places). served_with p own.wait fate) so.is.places ∙ ap (λ (w : ℕ). served_with (places_now start.first st) w fate) so.is.wait

module _ (plan : MirrorPlan) (start : RunStart) (at : RunAt) (own : MirrorOwn) (seen : MirrorOutside) (run : RunsSo at plan start own seen) where
  abbrev pub st : MirrorState
  st = after_events start.first before_all run.events

  -- ---- the first that waits is not sent

  pub first_refused : (own' : MirrorOwn) (seen' : MirrorOutside) (Ends : ConnectionEnd → Type 0)
      → GivesFirst (served_now own NotSent) Ends start.outside.door st.taken st.over own own' seen seen'
      → ((first : WaitingSeen) (rest : List WaitingSeen) (how : ConnectionEnd) → own.connections.waiting ≡ first ∷ rest → Ends how → MayNotBeSent start.first st (waiting_of first) how)
      → RunsSo at plan start own' seen'
  first_refused own' seen' Ends (first, rest, waited, gives) because =
      let waits : st.waiting ≡ waiting_of first ∷ map waiting_of rest = sym run.has.so.is.waiting ∙ ap (map waiting_of) waited in
      let gone : RunsSo at plan start (record own { connections = record own.connections { waiting = rest }; stop = own'.stop })
      (record seen { output = seen'.output; door = seen'.door; faults = record seen.faults { output = seen'.faults.output } }) = record {
        events = FirstRefused gives.one gives.told ∷ run.events;
        has = record {
          may = (
            (
              record {
                left = run.stands.left;
                waiting = waiting_of first;
                rest = map waiting_of rest;
                waits = waits;
                number = gives.number_is;
                by_state = gives.server_is ∙ served_is plan start st own seen NotSent run.has.so;
                because = because first rest gives.one.how waited gives.ends;
              },
              gives.prints.is_told,
            ),
            run.has.may,
          );
          so = over_goes plan start st own seen run.has.so gives.one gives.told st.finds st.find_open st.find_over (without_first st.waiting) st.taken st.in_hand st.phase st.readings st.now seen.readings
              own.finds (record own.connections { waiting = rest }) own'.stop seen.finds seen'.output seen'.door seen'.faults.output gives.prints run.has.so.finds gives.has
              run.has.so.is.find (ap without_first (sym waits)) (λ e. none_come_still seen.door.coming seen'.door.coming gives.coming (run.has.so.none_come e)) refl run.has.so.readings;
        };
        stands = record { left = record { none_taken = run.stands.left.none_taken; none_over = run.stands.left.none_over }; phase = run.stands.phase; now = run.stands.now; turns = run.stands.turns };
      } in
      subst (λ (s : MirrorOutside). RunsSo at plan start own' s) (sym gives.seen_is) (subst (λ (o : MirrorOwn). RunsSo at plan start o (record seen { output = seen'.output; door = seen'.door; faults = record seen.faults { output = seen'.faults.output } })) (sym gives.own_is) gone)

  -- ---- the find that is open is over

  pub find_answered : (own' : MirrorOwn) (seen' : MirrorOutside) (ours : FindsSeen) (line' : LineView) (Ends : ConnectionEnd → Type 0) (fate : FindFate) (find : FindInTurn) (one_open : StartedFind)
      → st.find_open ≡ Some one_open → asked_by_find find ≡ one_open.asked → states_in find ≡ one_open.states → ours.opened ≡ None
      → HasPassedFinds plan.updates.target plan.updates.need_digest (passing_start start) (st.finds ++ find ∷ []) ours line'
      → line'.objects ≡ seen.finds.objects
      → GivesOne one_open.number (served_now own fate) Ends (record own.connections { begun = None }) (given_so start.outside.door st.taken st.over) (record own { finds = ours }) own' (record seen { finds = line' }) seen'
      → ((one : OverConnection) → one.server ≡ record { places = places_now start.first st; wait = wait_now plan start.first st; fate = fate } → Ends one.how → IsAnsweredByFind plan start.first st find one)
      → RunsSo at plan start own' seen'
  find_answered own' seen' ours line' Ends fate find one_open is asks carries closed passed same gives by =
      let waiting_same : map waiting_of own.connections.waiting ≡ st.waiting = run.has.so.is.waiting in
      let own1 : MirrorOwn = record own { finds = ours; connections = record own.connections { begun = None }; stop = own'.stop } in
      let seen1 : MirrorOutside = record seen { finds = line'; output = seen'.output; door = seen'.door; faults = record seen.faults { output = seen'.faults.output } } in
      let gone : RunsSo at plan start own1 seen1 = record {
        events = FindAnswered gives.one gives.told ∷ FindOver find ∷ run.events;
        has = record {
          may = (
            (
              record {
                over = record { number = one_open.number; find = find };
                is = rw is refl;
                number = gives.number_is;
                by_find = by gives.one (gives.server_is ∙ served_is plan start st own seen fate run.has.so) gives.ends;
              },
              gives.prints.is_told,
            ),
            (record { left = run.stands.left; one_open = one_open; is = is; asks = asks; carries = carries }, run.has.may),
          );
          so = over_goes plan start st own seen run.has.so gives.one gives.told (st.finds ++ find ∷ []) None None st.waiting st.taken st.in_hand st.phase st.readings st.now seen.readings
              ours (record own.connections { begun = None }) own'.stop line' seen'.output seen'.door seen'.faults.output gives.prints passed gives.has
              (rw closed refl) waiting_same (λ e. none_come_still seen.door.coming seen'.door.coming gives.coming (run.has.so.none_come e)) same run.has.so.readings;
        };
        stands = record { left = record { none_taken = run.stands.left.none_taken; none_over = refl }; phase = run.stands.phase; now = run.stands.now; turns = run.stands.turns };
      } in
      subst (λ (s : MirrorOutside). RunsSo at plan start own' s) (sym gives.seen_is) (subst (λ (o : MirrorOwn). RunsSo at plan start o seen1) (sym gives.own_is) gone)

module _ (plan : MirrorPlan) (start : RunStart) (now : Moment) (turns : ℕ) (own : MirrorOwn) (seen : MirrorOutside) (run : RunsSo (run_at Beginning now turns) plan start own seen)
    (goes_on : own.stop ≡ None) (begins : MayBegin now own)
  where
    abbrev pub st2 : MirrorState
    st2 = after_events start.first before_all run.events

    waits2 : st2.waiting ≡ waiting_of begins.first ∷ map waiting_of begins.rest
    waits2 = sym run.has.so.is.waiting ∙ ap (map waiting_of) begins.waits

    closed_of : (begun : Option FindSeen) (opened : Option OpenFind) (one_open : Option StartedFind) → IsOpenFindOf begun opened one_open → opened ≡ None → (begun ≡ None) × (one_open ≡ None)
    closed_of None None one_open is e = (refl, is)
    closed_of None (Some session) one_open is e = absurd is
    closed_of (Some find) None one_open is e = absurd is
    closed_of (Some find) (Some session) one_open is e = cc

    pub none_begun : own.connections.begun ≡ None
    none_begun = (closed_of own.connections.begun own.finds.opened st2.find_open run.has.so.is.find begins.none_open).0

    none_open2 : st2.find_open ≡ None
    none_open2 = (closed_of own.connections.begun own.finds.opened st2.find_open run.has.so.is.find begins.none_open).1

    states_are : own.rounds.state.lists ≡ lists_now start.first st2
    states_are = lists_are plan start st2 own seen run.has.so (none_stopped plan start st2 own seen run.has.so (inl goes_on))

    abbrev pub started : StartedFind
    started = record { number = begins.first.find.number; asked = begins.first.asked; states = tokens_of own.rounds.state.lists }

    starts : started_first (tokens_of (lists_now start.first st2)) st2.waiting ≡ Some started
    starts = ap (started_first (tokens_of (lists_now start.first st2))) waits2
        ∙ ap (λ (ls : List Held). Some (record { number = begins.first.find.number; asked = begins.first.asked; states = tokens_of ls })) (sym states_are)

    may_begin : may_send_at (find_waits start.first st2) st2.now ≡ true
    may_begin = ap (λ (m : Moment). may_send_at (find_waits start.first st2) m) run.stands.now ∙ ap (λ w. may_send_at w now) (sym run.has.so.finds.waits_are) ∙ begins.may

    in_time2 : waited_long st2.now begins.first.heard ≡ false
    in_time2 = ap (λ (m : Moment). waited_long m begins.first.heard) run.stands.now ∙ begins.in_time

    pub find_begins : (ours : FindsSeen) (session : OpenFind) (line' : LineView) (conns : ConnectionsSeen)
        → conns ≡ record { taken = own.connections.taken; begun = Some begins.first.find; waiting = begins.rest }
        → HasConnections start.outside.door st2.taken st2.over conns seen.door
        → ours.opened ≡ Some session → session.asked ≡ begins.first.asked → session.states ≡ tokens_of own.rounds.state.lists
        → HasPassedFinds plan.updates.target plan.updates.need_digest (passing_start start) st2.finds ours line'
        → line'.objects ≡ seen.finds.objects
        → RunsSo (run_at Beginning now turns) plan start (record own { finds = ours; connections = conns }) (record seen { finds = line' })
    find_begins ours session line' conns conns_are connections opened asks carries passed same = record {
      events = FindBegun ∷ run.events;
      has = record {
        may = (
          record {
            left = run.stands.left;
            phase = run.stands.phase;
            none_open = none_open2;
            waiting = waiting_of begins.first;
            rest = map waiting_of begins.rest;
            waits = waits2;
            in_time = in_time2;
            may = may_begin;
          },
          run.has.may,
        );
        so = open_goes plan start st2 own seen run.has.so (started_first (tokens_of (lists_now start.first st2)) st2.waiting) (without_first st2.waiting) st2.taken st2.in_hand st2.phase st2.readings st2.now seen.readings
            ours conns line' seen.door passed connections
            (rw (conns_are, opened) (starts ∙ ap (λ (it : StartedFind). Some it) (started_as session asks carries)))
            (rw conns_are (ap without_first (sym waits2))) run.has.so.none_come same run.has.so.readings;
      };
      stands = record { left = record { none_taken = run.stands.left.none_taken; none_over = run.stands.left.none_over }; phase = run.stands.phase; now = run.stands.now; turns = run.stands.turns };
    }
      where
        started_as : (session : OpenFind) → session.asked ≡ begins.first.asked → session.states ≡ tokens_of own.rounds.state.lists
            → started ≡ record { number = begins.first.find.number; asked = session.asked; states = session.states }
        started_as session asks carries = cc

    pub find_refused : (own' : MirrorOwn) (seen' : MirrorOutside) (ours : FindsSeen) (line' : LineView) (conns : ConnectionsSeen) (find : FindInTurn)
        → conns ≡ record { taken = own.connections.taken; begun = Some begins.first.find; waiting = begins.rest }
        → asked_by_find find ≡ begins.first.asked → states_in find ≡ tokens_of own.rounds.state.lists → ours.opened ≡ None
        → HasPassedFinds plan.updates.target plan.updates.need_digest (passing_start start) (st2.finds ++ find ∷ []) ours line'
        → line'.objects ≡ seen.finds.objects
        → GivesOne begins.first.find.number (served_now own NotSent) (λ how. how ≡ end.OutOfMemory) (record conns { begun = None }) (given_so start.outside.door st2.taken st2.over)
        (record own { finds = ours; connections = conns }) own' (record seen { finds = line' }) seen'
        → ((one : OverConnection) → one.server ≡ record { places = places_now start.first st2; wait = wait_now plan start.first st2; fate = NotSent } → one.how ≡ end.OutOfMemory → IsAnsweredByFind plan start.first st2 find one)
        → RunsSo (run_at Beginning now turns) plan start own' seen'
    find_refused own' seen' ours line' conns find conns_are asks carries closed passed same gives by =
        let own1 : MirrorOwn = record own { finds = ours; connections = record conns { begun = None }; stop = own'.stop } in
        let seen1 : MirrorOutside = record seen { finds = line'; output = seen'.output; door = seen'.door; faults = record seen.faults { output = seen'.faults.output } } in
        let gone : RunsSo (run_at Beginning now turns) plan start own1 seen1 = record {
          events = FindAnswered gives.one gives.told ∷ FindOver find ∷ FindBegun ∷ run.events;
          has = record {
            may = (
              (
                record {
                  over = record { number = begins.first.find.number; find = find };
                  is = rw starts refl;
                  number = gives.number_is;
                  by_find = by gives.one (gives.server_is ∙ served_is plan start st2 own seen NotSent run.has.so) gives.ends;
                },
                gives.prints.is_told,
              ),
              (
                record { left = record { none_taken = run.stands.left.none_taken; none_over = run.stands.left.none_over }; one_open = started; is = starts; asks = asks; carries = carries },
                (
                  record {
                    left = run.stands.left;
                    phase = run.stands.phase;
                    none_open = none_open2;
                    waiting = waiting_of begins.first;
                    rest = map waiting_of begins.rest;
                    waits = waits2;
                    in_time = in_time2;
                    may = may_begin;
                  },
                  run.has.may,
                ),
              ),
            );
            so = over_goes plan start st2 own seen run.has.so gives.one gives.told (st2.finds ++ find ∷ []) None None (without_first st2.waiting) st2.taken st2.in_hand st2.phase st2.readings st2.now seen.readings
                ours (record conns { begun = None }) own'.stop line' seen'.output seen'.door seen'.faults.output gives.prints passed gives.has
                (rw closed refl) (rw conns_are (ap without_first (sym waits2))) (λ e. none_come_still seen.door.coming seen'.door.coming gives.coming (run.has.so.none_come e)) same run.has.so.readings;
          };
          stands = record { left = record { none_taken = run.stands.left.none_taken; none_over = refl }; phase = run.stands.phase; now = run.stands.now; turns = run.stands.turns };
        } in
        subst (λ (s : MirrorOutside). RunsSo (run_at Beginning now turns) plan start own' s) (sym gives.seen_is) (subst (λ (o : MirrorOwn). RunsSo (run_at Beginning now turns) plan start o seen1) (sym gives.own_is) gone)
