-- A run at its beginning.
use Rattle.std.proofs.Common.{◌≡◌, List, [], Bool, false, Option, Some, None, refl, ap}
use Rattle.std.proofs.lemmas.List.{append-nil}
use Rattle.std.specs.Prelude.{is_some}
use Rattle.client_rounds.specs.Rounds.{ClientSeen, HasKeptRounds, client_start_at}
use Rattle.find_desk.specs.Desk.{desk_start}
use Rattle.proxy_run.specs.LookSoFar.{HoldLooksSo, LookOwn, look_start_at}
use Rattle.proxy_run.specs.LookState.{no_looks}
use Rattle.proxy_run.specs.SoFar.{ProxyOutside, ProxyStart}
use Rattle.proxy_run.specs.State.{before_proxy}
use Rattle.proxy_run.specs.Steps.{ProxyBeginsSo}
use Rattle.proxy_run.specs.declared.plan.ProxyPlan.{ProxyPlan}
use Rattle.proxy_run.proofs.Views.{own_of}
use Rattle.sb_model.specs.declared.time.Moment.{Moment}
use Rattle.sb_outside.specs.Outside.{IfTold}
use Rattle.timed_sessions.specs.Told.{with_more}

none_read : (readings : Option (List Moment)) → IfTold readings (with_more readings [])
none_read None = tt
none_read (Some all) = ap (λ (r : List Moment). Some r) (append-nil all)

abbrev pub start_of : ClientSeen → LookOwn → ProxyOutside → ProxyStart
start_of rounds held seen = record { first = record { client = rounds.state; desk = desk_start held.desk seen.looks.finds }; outside = seen }

pub run_begins : (plan : ProxyPlan) (rounds : ClientSeen) (marks : List Bool) (held : LookOwn) (seen : ProxyOutside) → rounds.opened ≡ None → held.ended ≡ None
    → HasKeptRounds plan.updates (client_start_at rounds seen.updates seen.keeper) [] rounds seen.updates seen.keeper
    → HoldLooksSo plan (look_start_at held seen.looks) no_looks held seen.looks
    → ProxyBeginsSo plan (start_of rounds held seen) (own_of rounds marks held false) seen
run_begins plan rounds marks held seen no_round none_over made holds = (
  before_proxy.now,
  record {
    events = [];
    has = record {
      may = tt;
      so = record {
        round_open = ap is_some no_round;
        more = λ e. cc;
        halts = λ e. cc;
        no_more = refl;
        rounds = made;
        looks = holds;
        readings = none_read seen.readings;
        none_come = λ e. cc;
        keeper_faults = refl;
        door_faults = refl;
        same_updates = refl;
      };
    };
    stands = record { left = record { none_in_hand = refl; none_unsettled = refl }; uncounted = refl; phase = refl; now = refl; turns = refl };
    none_over = none_over;
  },
)
