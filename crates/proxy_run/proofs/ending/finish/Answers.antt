use Rattle.std.proofs.Common.{◌≡◌, [], ◌++◌, List, Option, None, sym, ap, ◌∙◌, subst, refl, inl, inr}
use Rattle.std.proofs.lemmas.List.{append-nil}
use Rattle.client_rounds.specs.Rounds.{ClientSeen}
use Rattle.find_desk.specs.Events.{DeskEvent}
use Rattle.proxy_run.specs.Allowed.{proxy_look_at}
use Rattle.proxy_run.specs.Events.{after_proxy_events}
use Rattle.proxy_run.specs.LookEvents.{counts_line}
use Rattle.proxy_run.specs.LookSoFar.{HoldLooksSo}
use Rattle.proxy_run.specs.LookState.{StartedAsking}
use Rattle.proxy_run.specs.LookSteps.{PrintsPart}
use Rattle.proxy_run.specs.Run.{EndsProxy}
use Rattle.proxy_run.specs.SoFar.{ProxyOutside, ProxyOwn, proxy_looks_start}
use Rattle.proxy_run.specs.State.{before_proxy, is_finishing}
use Rattle.proxy_run.specs.State.ProxyPhase.{Finishing}
use Rattle.proxy_run.specs.Steps.{RunsProxySo, proxy_at}
use Rattle.proxy_run.proofs.EndTurns.{run_finished}
use Rattle.proxy_run.proofs.LookTurns.{none_asked}
use Rattle.proxy_run.proofs.Views.{looks_outside, outside_of, own_of}
use Rattle.proxy_run.proofs.ending.finish.Goals as goal

pub end_open_find-requires : goal.end_open_find-requires
end_open_find-requires g c =
    let run = c.requires.running in
    record { running = (run.0, (run.1.0, c.end_open_round.ensures.goes run.0 run.1.0 run.1.1)) }

pub release_waiting-requires : goal.release_waiting-requires
release_waiting-requires g c =
    let plan = c.args.plan.now in
    let r = c.run.inside in
    let w = c.world.inside in
    let own : ProxyOwn = own_of r.rounds r.sizes.marks r.held r.no_more in
    let seen : ProxyOutside = outside_of (g.N.Line.view w.updates) (g.K.Keeper.handed w.keep) (g.K.Keeper.kept w.keep) (g.K.Keeper.faults w.keep) (g.C.Clock.answers w.clock) w.looks in
    let run = c.requires.running in
    let later = c.end_open_find.ensures.goes run.0.phase run.0.turns run.0.now in
    let at = proxy_at run.0.phase later.0 run.0.turns in
    let ended = later.1 run.1.0 (c.end_open_round.ensures.goes run.0 run.1.0 run.1.1) in
    let here : RunsProxySo at plan run.1.0 own seen =
    subst (λ (o : ProxyOutside). RunsProxySo at plan run.1.0 own o) (sym c.world.view_is) (subst (λ (o : ProxyOwn). RunsProxySo at plan run.1.0 o c.end_open_find.new.world) (sym c.run.view_is) ended) in
    record {
      held = (plan, proxy_looks_start run.1.0, (after_proxy_events run.1.0.first before_proxy here.events).looks, here.has.so.looks, here.stands.left);
      closed = ap (λ (o : ProxyOwn). o.looks.desk.opened) c.run.view_is ∙ c.end_open_find.ensures.closed;
    }

pub returns : goal.returns
returns g c = record {
  ends = λ start now turns run.
      let plan = c.args.plan.now in
      let r = c.run.inside in
      let w = c.world.inside in
      let own : ProxyOwn = own_of r.rounds r.sizes.marks r.held r.no_more in
      let seen : ProxyOutside = outside_of (g.N.Line.view w.updates) (g.K.Keeper.handed w.keep) (g.K.Keeper.kept w.keep) (g.K.Keeper.faults w.keep) (g.C.Clock.answers w.clock) w.looks in
      let later = c.end_open_find.ensures.goes Finishing turns now in
      let at = proxy_at Finishing later.0 turns in
      let ended = later.1 start (c.end_open_round.ensures.goes (proxy_at Finishing now turns) start run) in
      let here : RunsProxySo at plan start own seen =
      subst (λ (o : ProxyOutside). RunsProxySo at plan start own o) (sym c.world.view_is) (subst (λ (o : ProxyOwn). RunsProxySo at plan start o c.end_open_find.new.world) (sym c.run.view_is) ended) in
      let st = after_proxy_events start.first before_proxy here.events in
      let no_round : own.rounds.opened ≡ None = ap (λ (o : ProxyOwn). o.rounds.opened) c.run.view_is ∙ ap (λ (s : ClientSeen). s.opened) c.end_open_find.ensures.rounds ∙ c.end_open_round.ensures.closed in
      let no_find : own.looks.desk.opened ≡ None = ap (λ (o : ProxyOwn). o.looks.desk.opened) c.run.view_is ∙ c.end_open_find.ensures.closed in
      let none_open = none_asked own.looks.desk.opened own.looks.asked own.looks.looks st.looks.find_open here.has.so.looks.are.find no_find in
      let hold = subst (λ (d : List DeskEvent). HoldLooksSo plan (proxy_looks_start start) (record st.looks { desk = d; find_open = None }) own.looks seen.looks) (sym (append-nil st.looks.desk))
      (subst (λ (f : Option StartedAsking). HoldLooksSo plan (proxy_looks_start start) (record st.looks { find_open = f }) own.looks seen.looks) none_open here.has.so.looks) in
      let goes = c.release_waiting.ensures.goes (proxy_look_at plan start.first st) (proxy_looks_start start) st.looks [] refl hold here.stands.left (inr (inr (ap is_finishing here.stands.phase, none_open, refl))) in
      let held = c.release_waiting.new.held in
      let outs = c.release_waiting.new.world in
      let seen2 : ProxyOutside = outside_of (g.N.Line.view c.world-inside.inside.0.1.0) (g.K.Keeper.handed c.world-inside.inside.0.0) (g.K.Keeper.kept c.world-inside.inside.0.0) (g.K.Keeper.faults c.world-inside.inside.0.0) (g.C.Clock.answers c.world-inside.inside.0.1.1.0) (looks_outside (g.M.Line.view c.world-inside.inside.0.1.1.1.0.finds) (g.O.Sink.contents c.world-inside.inside.0.1.1.1.0.out) (g.D.Door.log c.world-inside.inside.0.1.1.1.0.door) (g.D.Door.coming c.world-inside.inside.0.1.1.1.0.door) (g.O.Sink.faults c.world-inside.inside.0.1.1.1.0.out) (g.D.Door.faults c.world-inside.inside.0.1.1.1.0.door)) in
      let whole : seen2 ≡ record seen { looks = outs } = ap (λ w. outside_of (g.N.Line.view w.updates) (g.K.Keeper.handed w.keep) (g.K.Keeper.kept w.keep) (g.K.Keeper.faults w.keep) (g.C.Clock.answers w.clock) w.looks) c.world-inside.view_is in
      let told = c.tell_counts.ensures.prints in
      let text = g.O.Sink.contents c.tell_counts.new.out in
      let faults = g.O.Sink.faults c.tell_counts.new.out in
      let prints = subst (λ (o : ProxyOutside). PrintsPart (counts_line held.connections.taken held.waited held.finds) told.0 held.stop c.tell_counts.new.held.stop o.looks.output text o.looks.output_faults faults) whole told.1 in
      subst (λ (o : ProxyOutside). EndsProxy plan start c.tell_counts.new.held.stop (record o { looks = record o.looks { output = text; output_faults = faults } })) (sym whole)
      (run_finished plan start later.0 turns own seen here no_round held outs goes c.release_waiting.ensures.door told.0 c.tell_counts.new.held.stop text faults prints);
}
