use Rattle.std.proofs.Common.{◌≡◌, ℕ, List, Option, true, refl, sym, ap, ◌∙◌, subst}
use Rattle.find_desk.specs.Desk.{HasKeptDesk}
use Rattle.held_connections.specs.Over.{DoorView, door_view}
use Rattle.proxy_run.specs.Events.{after_proxy_events}
use Rattle.proxy_run.specs.LookEvents.{first_stop}
use Rattle.proxy_run.specs.SoFar.{ProxyOutside, ProxyOwn}
use Rattle.proxy_run.specs.State.{before_proxy}
use Rattle.proxy_run.specs.State.ProxyPhase.{Between, Ending}
use Rattle.proxy_run.specs.Steps.{RunsProxySo, proxy_at}
use Rattle.proxy_run.specs.declared.stop.ProxyStop.TheVariants as cause
use Rattle.proxy_run.proofs.LookTurns.{none_in_hand_of}
use Rattle.proxy_run.proofs.TakeTurns.{door_failed_now, no_more_came, nothing_came}
use Rattle.proxy_run.proofs.Views.{looks_outside, outside_of, own_of}
use Rattle.sb_outside.specs.declared.doors.Connection.{Connection}
use Rattle.proxy_run.proofs.taking.take_next.Goals as goal

pub returns-then-is_over : goal.returns-then-is_over
returns-then-is_over g c before turns = (before, λ start run. nothing_came c.args.plan.now start before turns c.args.run.now c.args.world.now run)

pub take_wire-requires : goal.take_wire-requires
take_wire-requires g c =
    let plan = c.args.plan.now in
    let d = c.requires.running in
    let own = c.args.run.now in
    let seen : ProxyOutside = outside_of (g.N.Line.view c.world-inside.inside.0.1.0) (g.K.Keeper.handed c.world-inside.inside.0.0) (g.K.Keeper.kept c.world-inside.inside.0.0) (g.K.Keeper.faults c.world-inside.inside.0.0) (g.C.Clock.answers c.world-inside.inside.0.1.1.0) (looks_outside (g.M.Line.view c.world-inside.inside.0.1.1.1.0.finds) (g.O.Sink.contents c.world-inside.inside.0.1.1.1.0.out) (g.D.Door.log c.world-inside.inside.0.1.1.1.0.door) (g.D.Door.coming c.world-inside.inside.0.1.1.1.0.door) (g.O.Sink.faults c.world-inside.inside.0.1.1.1.0.out) (g.D.Door.faults c.world-inside.inside.0.1.1.1.0.door)) in
    let is : seen ≡ c.args.world.now = ap (λ w. outside_of (g.N.Line.view w.updates) (g.K.Keeper.handed w.keep) (g.K.Keeper.kept w.keep) (g.K.Keeper.faults w.keep) (g.C.Clock.answers w.clock) w.looks) c.world-inside.view_is ∙ c.world.view_is in
    let run = d.1.1 in
    let st = after_proxy_events d.1.0.first before_proxy run.events in
    record {
      free = none_in_hand_of own.looks.connections.hand st.looks.hand run.has.so.looks.are.hand run.stands.left.none_in_hand;
      desk = (d.1.0.first.desk, st.looks.desk, subst (λ (o : ProxyOutside). HasKeptDesk plan.updates.target plan.updates.need_digest d.1.0.first.desk st.looks.desk own.looks.desk o.looks.finds) (sym is) run.has.so.looks.desk);
      goes_on = c.is_over.ensures.goes_on c.if-is_over.false;
      few = c.is_over.ensures.few c.if-is_over.false;
      more = c.is_over.ensures.more c.if-is_over.false;
    }

pub returns-in-Ok-Connected : goal.returns-in-Ok-Connected
returns-in-Ok-Connected g c before turns = (
  c.now-heard.result,
  λ start run.
      let plan = c.args.plan.now in
      let seen : ProxyOutside = outside_of (g.N.Line.view c.world-inside.inside.0.1.0) (g.K.Keeper.handed c.world-inside.inside.0.0) (g.K.Keeper.kept c.world-inside.inside.0.0) (g.K.Keeper.faults c.world-inside.inside.0.0) (g.C.Clock.answers c.world-inside.inside.0.1.1.0) (looks_outside (g.M.Line.view c.world-inside.inside.0.1.1.1.0.finds) (g.O.Sink.contents c.world-inside.inside.0.1.1.1.0.out) (g.D.Door.log c.world-inside.inside.0.1.1.1.0.door) (g.D.Door.coming c.world-inside.inside.0.1.1.1.0.door) (g.O.Sink.faults c.world-inside.inside.0.1.1.1.0.out) (g.D.Door.faults c.world-inside.inside.0.1.1.1.0.door)) in
      let is : seen ≡ c.args.world.now = ap (λ w. outside_of (g.N.Line.view w.updates) (g.K.Keeper.handed w.keep) (g.K.Keeper.kept w.keep) (g.K.Keeper.faults w.keep) (g.C.Clock.answers w.clock) w.looks) c.world-inside.view_is ∙ c.world.view_is in
      let here : RunsProxySo (proxy_at Ending before turns) plan start c.args.run.now seen = subst (λ (o : ProxyOutside). RunsProxySo (proxy_at Ending before turns) plan start c.args.run.now o) (sym is) run in
      let is_wire = c.in-Ok-Connected.field-0-is in
      let first = rw is_wire at c.in-Ok-Connected.ensures.first in
      let faults = rw is_wire at c.in-Ok-Connected.ensures.no_faults in
      c.take_wire.ensures before turns start seen.looks.door seen.readings first.pieces
      (subst (λ (n : ℕ). RunsProxySo (proxy_at Ending before turns) plan start c.args.run.now (record seen { looks = record seen.looks { door_faults = n } })) (sym c.in-Ok-Connected.ensures.kept) here)
      c.now-heard.ensures.told
      (record {
        came = first.first;
        opened = rw is_wire at c.in-Ok-Connected.ensures.opened;
        placed = rw is_wire at c.in-Ok-Connected.ensures.number;
        fresh = record { some = first.some; started = first.started; remains = first.remains; nothing = rw is_wire at c.in-Ok-Connected.ensures.nothing_written; no_reads = faults.0; no_writes = faults.1 };
      }),
)

pub returns-in-Ok-NoMore : goal.returns-in-Ok-NoMore
returns-in-Ok-NoMore g c before turns = (
  before,
  λ start run.
      let plan = c.args.plan.now in
      let own : ProxyOwn = own_of c.run.inside.rounds c.run.inside.sizes.marks c.run.inside.held c.run.inside.no_more in
      let seen : ProxyOutside = outside_of (g.N.Line.view c.world-inside.inside.0.1.0) (g.K.Keeper.handed c.world-inside.inside.0.0) (g.K.Keeper.kept c.world-inside.inside.0.0) (g.K.Keeper.faults c.world-inside.inside.0.0) (g.C.Clock.answers c.world-inside.inside.0.1.1.0) (looks_outside (g.M.Line.view c.world-inside.inside.0.1.1.1.0.finds) (g.O.Sink.contents c.world-inside.inside.0.1.1.1.0.out) (g.D.Door.log c.world-inside.inside.0.1.1.1.0.door) (g.D.Door.coming c.world-inside.inside.0.1.1.1.0.door) (g.O.Sink.faults c.world-inside.inside.0.1.1.1.0.out) (g.D.Door.faults c.world-inside.inside.0.1.1.1.0.door)) in
      let is : seen ≡ c.args.world.now = ap (λ w. outside_of (g.N.Line.view w.updates) (g.K.Keeper.handed w.keep) (g.K.Keeper.kept w.keep) (g.K.Keeper.faults w.keep) (g.C.Clock.answers w.clock) w.looks) c.world-inside.view_is ∙ c.world.view_is in
      let here : RunsProxySo (proxy_at Ending before turns) plan start c.args.run.now seen = subst (λ (o : ProxyOutside). RunsProxySo (proxy_at Ending before turns) plan start c.args.run.now o) (sym is) run in
      let field = c.in-Ok-NoMore.field-0-is in
      let same_log = rw field at c.in-Ok-NoMore.ensures.same_log in
      let same_coming = rw field at c.in-Ok-NoMore.ensures.same_coming in
      let same : door_view (g.D.Door.log c.next_before.new.self) (g.D.Door.coming c.next_before.new.self) ≡ seen.looks.door = ap (λ (l : Option (List Connection)). door_view l (g.D.Door.coming c.next_before.new.self)) (same_log refl)
      ∙ ap (λ (k : Option (List (List (List ℕ)))). door_view (g.D.Door.log c.world-inside.inside.0.1.1.1.0.door) k) (same_coming refl) in
      subst (λ (n : ℕ). RunsProxySo (proxy_at Between before turns) plan start (record own { no_more = true }) (outside_of (g.N.Line.view c.world-inside.inside.0.1.0) (g.K.Keeper.handed c.world-inside.inside.0.0) (g.K.Keeper.kept c.world-inside.inside.0.0) (g.K.Keeper.faults c.world-inside.inside.0.0) (g.C.Clock.answers c.world-inside.inside.0.1.1.0) (looks_outside (g.M.Line.view c.world-inside.inside.0.1.1.1.0.finds) (g.O.Sink.contents c.world-inside.inside.0.1.1.1.0.out) (g.D.Door.log c.next_before.new.self) (g.D.Door.coming c.next_before.new.self) (g.O.Sink.faults c.world-inside.inside.0.1.1.1.0.out) n))) (sym c.in-Ok-NoMore.ensures.kept)
      (subst (λ (d : DoorView). RunsProxySo (proxy_at Between before turns) plan start (record own { no_more = true }) (record seen { looks = record seen.looks { door = d } })) (sym same)
      (no_more_came plan start before turns own seen (subst (λ (o : ProxyOwn). RunsProxySo (proxy_at Ending before turns) plan start o seen) (sym c.run.view_is) here) (c.in-Ok-NoMore.ensures.none field))),
)

pub returns-in-Ok-TimedOut : goal.returns-in-Ok-TimedOut
returns-in-Ok-TimedOut g c before turns = (
  before,
  λ start run.
      let plan = c.args.plan.now in
      let seen : ProxyOutside = outside_of (g.N.Line.view c.world-inside.inside.0.1.0) (g.K.Keeper.handed c.world-inside.inside.0.0) (g.K.Keeper.kept c.world-inside.inside.0.0) (g.K.Keeper.faults c.world-inside.inside.0.0) (g.C.Clock.answers c.world-inside.inside.0.1.1.0) (looks_outside (g.M.Line.view c.world-inside.inside.0.1.1.1.0.finds) (g.O.Sink.contents c.world-inside.inside.0.1.1.1.0.out) (g.D.Door.log c.world-inside.inside.0.1.1.1.0.door) (g.D.Door.coming c.world-inside.inside.0.1.1.1.0.door) (g.O.Sink.faults c.world-inside.inside.0.1.1.1.0.out) (g.D.Door.faults c.world-inside.inside.0.1.1.1.0.door)) in
      let is : seen ≡ c.args.world.now = ap (λ w. outside_of (g.N.Line.view w.updates) (g.K.Keeper.handed w.keep) (g.K.Keeper.kept w.keep) (g.K.Keeper.faults w.keep) (g.C.Clock.answers w.clock) w.looks) c.world-inside.view_is ∙ c.world.view_is in
      let here : RunsProxySo (proxy_at Ending before turns) plan start c.args.run.now seen = subst (λ (o : ProxyOutside). RunsProxySo (proxy_at Ending before turns) plan start c.args.run.now o) (sym is) run in
      let field = c.in-Ok-TimedOut.field-0-is in
      let same_log = rw field at c.in-Ok-TimedOut.ensures.same_log in
      let same_coming = rw field at c.in-Ok-TimedOut.ensures.same_coming in
      let same : door_view (g.D.Door.log c.next_before.new.self) (g.D.Door.coming c.next_before.new.self) ≡ seen.looks.door = ap (λ (l : Option (List Connection)). door_view l (g.D.Door.coming c.next_before.new.self)) (same_log refl)
      ∙ ap (λ (k : Option (List (List (List ℕ)))). door_view (g.D.Door.log c.world-inside.inside.0.1.1.1.0.door) k) (same_coming refl) in
      subst (λ (n : ℕ). RunsProxySo (proxy_at Between before turns) plan start c.args.run.now (outside_of (g.N.Line.view c.world-inside.inside.0.1.0) (g.K.Keeper.handed c.world-inside.inside.0.0) (g.K.Keeper.kept c.world-inside.inside.0.0) (g.K.Keeper.faults c.world-inside.inside.0.0) (g.C.Clock.answers c.world-inside.inside.0.1.1.0) (looks_outside (g.M.Line.view c.world-inside.inside.0.1.1.1.0.finds) (g.O.Sink.contents c.world-inside.inside.0.1.1.1.0.out) (g.D.Door.log c.next_before.new.self) (g.D.Door.coming c.next_before.new.self) (g.O.Sink.faults c.world-inside.inside.0.1.1.1.0.out) n))) (sym c.in-Ok-TimedOut.ensures.kept)
      (subst (λ (d : DoorView). RunsProxySo (proxy_at Between before turns) plan start c.args.run.now (record seen { looks = record seen.looks { door = d } })) (sym same)
      (nothing_came plan start before turns c.args.run.now seen here)),
)

pub returns-in-Err : goal.returns-in-Err
returns-in-Err g c before turns = (
  before,
  λ start run.
      let plan = c.args.plan.now in
      let own : ProxyOwn = own_of c.run.inside.rounds c.run.inside.sizes.marks c.run.inside.held c.run.inside.no_more in
      let seen : ProxyOutside = outside_of (g.N.Line.view c.world-inside.inside.0.1.0) (g.K.Keeper.handed c.world-inside.inside.0.0) (g.K.Keeper.kept c.world-inside.inside.0.0) (g.K.Keeper.faults c.world-inside.inside.0.0) (g.C.Clock.answers c.world-inside.inside.0.1.1.0) (looks_outside (g.M.Line.view c.world-inside.inside.0.1.1.1.0.finds) (g.O.Sink.contents c.world-inside.inside.0.1.1.1.0.out) (g.D.Door.log c.world-inside.inside.0.1.1.1.0.door) (g.D.Door.coming c.world-inside.inside.0.1.1.1.0.door) (g.O.Sink.faults c.world-inside.inside.0.1.1.1.0.out) (g.D.Door.faults c.world-inside.inside.0.1.1.1.0.door)) in
      let is : seen ≡ c.args.world.now = ap (λ w. outside_of (g.N.Line.view w.updates) (g.K.Keeper.handed w.keep) (g.K.Keeper.kept w.keep) (g.K.Keeper.faults w.keep) (g.C.Clock.answers w.clock) w.looks) c.world-inside.view_is ∙ c.world.view_is in
      let here : RunsProxySo (proxy_at Ending before turns) plan start c.args.run.now seen = subst (λ (o : ProxyOutside). RunsProxySo (proxy_at Ending before turns) plan start c.args.run.now o) (sym is) run in
      let same : door_view (g.D.Door.log c.next_before.new.self) (g.D.Door.coming c.next_before.new.self) ≡ seen.looks.door = ap (λ (l : Option (List Connection)). door_view l (g.D.Door.coming c.next_before.new.self)) (c.in-Err.ensures.err_log)
      ∙ ap (λ (k : Option (List (List (List ℕ)))). door_view (g.D.Door.log c.world-inside.inside.0.1.1.1.0.door) k) (c.in-Err.ensures.err_coming) in
      rw c.note.ensures (door_failed_now plan start before turns own seen (subst (λ (o : ProxyOwn). RunsProxySo (proxy_at Ending before turns) plan start o seen) (sym c.run.view_is) here) (door_view (g.D.Door.log c.next_before.new.self) (g.D.Door.coming c.next_before.new.self)) (g.D.Door.faults c.next_before.new.self)
      (first_stop own.looks.stop cause.DoorFault) same c.in-Err.ensures.failed refl),
)
