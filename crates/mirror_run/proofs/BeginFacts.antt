-- A run at its beginning.
use Rattle.std.proofs.Common.{◌≡◌, ℕ, List, [], ◌∷◌, false, Option, Some, None, map, refl, sym, ap}
use Rattle.std.proofs.lemmas.List.{append-nil}
use Rattle.std.specs.Prelude.{is_some}
use Rattle.mirror_connections.specs.Open.{ConnectionsSeen, FindSeen, HasConnections}
use Rattle.mirror_finds.specs.Finds.{FindsSeen, HasPassedFinds, finds_start}
use Rattle.mirror_finds.specs.declared.finds.OpenFind.{OpenFind}
use Rattle.mirror_rounds.specs.Rounds.{HasMadeRounds, MirrorSeen, start_at}
use Rattle.mirror_run.specs.SoFar.{IsOpenFindOf, MirrorOutside, RunStart, waiting_of}
use Rattle.mirror_run.specs.State.{before_all, told_wait}
use Rattle.mirror_run.specs.Steps.{BeginsSo}
use Rattle.mirror_run.specs.declared.plan.MirrorPlan.{MirrorPlan}
use Rattle.mirror_run.proofs.Facts.{appended_nothing, places_pinned}
use Rattle.mirror_run.proofs.Views.{own_of}
use Rattle.sb_model.specs.declared.time.Moment.{Moment}
use Rattle.sb_outside.specs.Outside.{IfTold}
use Rattle.timed_sessions.specs.Told.{with_more}

none_read : (readings : Option (List Moment)) → IfTold readings (with_more readings [])
none_read None = tt
none_read (Some all) = ap (λ (r : List Moment). Some r) (append-nil all)

none_open : (begun : Option FindSeen) (opened : Option OpenFind) → begun ≡ None → opened ≡ None → IsOpenFindOf begun opened None
none_open None None e f = refl
none_open None (Some session) e f = cc
none_open (Some find) None e f = cc
none_open (Some find) (Some session) e f = cc

abbrev pub start_of : MirrorSeen → FindsSeen → MirrorOutside → RunStart
start_of rounds finds seen = record { first = record { client = rounds.state; finds = finds.waits; epoch = rounds.places.epoch }; outside = seen }

pub run_begins : (plan : MirrorPlan) (rounds : MirrorSeen) (finds : FindsSeen) (conns : ConnectionsSeen) (wait : ℕ) (seen : MirrorOutside)
    → rounds.opened ≡ None → finds.opened ≡ None → conns.begun ≡ None → conns.waiting ≡ [] → wait ≡ told_wait plan.wait false rounds.state.lists
    → HasMadeRounds plan.updates (start_at rounds seen.updates seen.keeper) [] rounds seen.updates seen.keeper
    → HasPassedFinds plan.updates.target plan.updates.need_digest (finds_start finds seen.finds) [] finds seen.finds
    → HasConnections seen.door [] [] conns seen.door
    → BeginsSo plan (start_of rounds finds seen) (own_of rounds finds conns wait false false None) seen
run_begins plan rounds finds conns wait seen no_round no_find begun waiting told made passed connections = (
  before_all.now,
  record {
    events = [];
    has = record {
      may = tt;
      so = record {
        is = record {
          places = places_pinned rounds.places rounds.places.epoch (rounds.state.lists ∷ []) refl made.places;
          round_open = ap is_some no_round;
          more = λ e. cc;
          halts = λ e. cc;
          answered = refl;
          wait = told;
          find = none_open conns.begun finds.opened begun no_find;
          waiting = ap (map waiting_of) waiting;
          no_more = refl;
          stop = refl;
        };
        rounds = made;
        finds = passed;
        connections = connections;
        printed = sym (appended_nothing seen.output);
        readings = none_read seen.readings;
        none_come = λ e. cc;
        faults = record { output = refl; keeper = refl; door = refl };
        same_updates = refl;
        same_finds = refl;
      };
    };
    stands = record { left = record { none_taken = refl; none_over = refl }; phase = refl; now = refl; turns = refl };
  },
)
