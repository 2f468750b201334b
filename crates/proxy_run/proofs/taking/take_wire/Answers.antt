use Rattle.std.proofs.Common.{◌≡◌, ◌<◌, List, None, false, sym, ap, ◌∙◌, subst, inl}
use Rattle.find_desk.specs.Desk.{HasKeptDesk}
use Rattle.held_connections.specs.Held.{WireView, wire_view}
use Rattle.held_connections.specs.Steps.{HandsOutWire}
use Rattle.proxy_run.specs.Events.{after_proxy_events}
use Rattle.proxy_run.specs.LookAllowed.{look_at}
use Rattle.proxy_run.specs.LookSteps.{LooksTake}
use Rattle.proxy_run.specs.SoFar.{ProxyOutside, ProxyOwn, proxy_looks_start}
use Rattle.proxy_run.specs.State.{before_proxy}
use Rattle.proxy_run.specs.State.ProxyPhase.{Ending}
use Rattle.proxy_run.specs.Steps.{RunsProxySo, proxy_at}
use Rattle.proxy_run.proofs.RoundFacts.{lists_are, none_stopped}
use Rattle.proxy_run.proofs.TakeTurns.{look_taken}
use Rattle.proxy_run.proofs.Views.{outside_of, own_of}
use Rattle.sb_outside.specs.Outside.{IfTold, with_entry}
use Rattle.update_client.specs.Held.{Held}
use Rattle.url_checker.specs.Hits.{MarksAll}
use Rattle.proxy_run.proofs.taking.take_wire.Goals as goal

pub take_look-requires : goal.take_look-requires
take_look-requires g c =
    let plan = c.args.plan.now in
    let d = c.requires.desk in
    record {
      free = ap (λ (o : ProxyOwn). o.looks.connections.hand) c.run.view_is ∙ c.requires.free;
      few = subst (λ (o : ProxyOwn). o.looks.connections.taken < 4294967295) (sym c.run.view_is) c.requires.few;
      desk = (
        d.0,
        d.1,
        subst (λ (o : ProxyOwn). HasKeptDesk plan.updates.target plan.updates.need_digest d.0 d.1 o.looks.desk c.world.inside.looks.finds) (sym c.run.view_is)
            (subst (λ (o : ProxyOutside). HasKeptDesk plan.updates.target plan.updates.need_digest d.0 d.1 c.args.run.now.looks.desk o.looks.finds) (sym c.world.view_is) d.2),
      );
      marked = subst (λ (ls : List Held). MarksAll c.run.inside.sizes.marks ls) (sym c.lists.ensures) c.run.invariant;
    }

pub returns : goal.returns
returns g c now turns start before read pieces run reads hands =
    let plan = c.args.plan.now in
    let r = c.run.inside in
    let w = c.world.inside in
    let at = proxy_at Ending now turns in
    let own : ProxyOwn = own_of r.rounds r.sizes.marks r.held r.no_more in
    let seen : ProxyOutside = outside_of (g.N.Line.view w.updates) (g.K.Keeper.handed w.keep) (g.K.Keeper.kept w.keep) (g.K.Keeper.faults w.keep) (g.C.Clock.answers w.clock) w.looks in
    let old : ProxyOutside = record seen { readings = read; looks = record seen.looks { door = before } } in
    let here : RunsProxySo at plan start own old = subst (λ (o : ProxyOutside). RunsProxySo at plan start own (record o { readings = read; looks = record o.looks { door = before } })) (sym c.world.view_is)
    (subst (λ (o : ProxyOwn). RunsProxySo at plan start o (record c.args.world.now { readings = read; looks = record c.args.world.now.looks { door = before } })) (sym c.run.view_is) run) in
    let st = after_proxy_events start.first before_proxy here.events in
    let wire : WireView = wire_view (g.D.Wire.Wire.number c.args.wire) (g.D.Wire.Wire.start c.args.wire) (g.D.Wire.Source.left c.args.wire) (g.D.Wire.Sink.contents c.args.wire) (g.D.Wire.Source.faults c.args.wire) (g.D.Wire.Sink.faults c.args.wire) in
    let reads_now : IfTold seen.readings (with_entry read c.args.heard) = subst (λ (o : ProxyOutside). IfTold o.readings (with_entry read c.args.heard)) (sym c.world.view_is) reads in
    let hands_now : HandsOutWire pieces before seen.looks.door wire = subst (λ (o : ProxyOutside). HandsOutWire pieces before o.looks.door wire) (sym c.world.view_is) hands in
    let goes_on : own.looks.stop ≡ None = ap (λ (o : ProxyOwn). o.looks.stop) c.run.view_is ∙ c.requires.goes_on in
    let more : own.looks.connections.taken < plan.connections = subst (λ (o : ProxyOwn). o.looks.connections.taken < plan.connections) (sym c.run.view_is) c.requires.more in
    let none = none_stopped plan start st own old here.has.so (inl goes_on) in
    let takes = subst (λ (ls : List Held). LooksTake (look_at plan start.first.desk ls c.args.heard false) (proxy_looks_start start) st.looks pieces c.take_look.new.held c.take_look.new.world) (c.lists.ensures ∙ lists_are plan start st own old here.has.so none)
    (c.take_look.ensures.goes (proxy_looks_start start) st.looks before pieces false here.has.so.looks here.stands.left hands_now) in
    look_taken plan start now turns own seen before read c.args.heard pieces wire here reads_now hands_now goes_on more c.take_look.new.held c.take_look.new.world takes c.take_look.ensures.door
    (c.take_look.ensures.ended ∙ here.none_over)
