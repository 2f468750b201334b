use Rattle.std.proofs.Common.{sym, ◌∙◌, subst, refl}
use Rattle.proxy_run.specs.Allowed.{proxy_look_at}
use Rattle.proxy_run.specs.Events.{after_proxy_events}
use Rattle.proxy_run.specs.LookEvents.{after_look_events}
use Rattle.proxy_run.specs.SoFar.{ProxyOutside, ProxyOwn, proxy_looks_start}
use Rattle.proxy_run.specs.State.{before_proxy}
use Rattle.proxy_run.specs.Steps.{RunsProxySo, proxy_at}
use Rattle.proxy_run.proofs.FindTurns.{find_lost, find_settled, to_settle_of}
use Rattle.proxy_run.proofs.Views.{outside_of, own_of}
use Rattle.proxy_run.proofs.turning.end_and_settle.Goals as goal

pub settle_waiting-requires : goal.settle_waiting-requires
settle_waiting-requires g c =
    let plan = c.args.plan.now in
    let r = c.run.inside in
    let w = c.world.inside in
    let own : ProxyOwn = own_of r.rounds r.sizes.marks r.held r.no_more in
    let seen : ProxyOutside = outside_of (g.N.Line.view w.updates) (g.K.Keeper.handed w.keep) (g.K.Keeper.kept w.keep) (g.K.Keeper.faults w.keep) (g.C.Clock.answers w.clock) w.looks in
    let d = c.requires.running in
    let here : RunsProxySo d.0 plan d.1.0 own seen = subst (λ (o : ProxyOutside). RunsProxySo d.0 plan d.1.0 own o) (sym c.world.view_is) (subst (λ (o : ProxyOwn). RunsProxySo d.0 plan d.1.0 o c.args.world.now) (sym c.run.view_is) d.1.1) in
    let st = after_proxy_events d.1.0.first before_proxy here.events in
    let goes = c.end_find.ensures.goes (proxy_look_at plan d.1.0.first st) (proxy_looks_start d.1.0) st.looks refl refl here.has.so.looks here.stands.left in
    let some = sym c.is_to_settle.ensures ∙ c.if-is_to_settle.true in
    record { held = (proxy_looks_start d.1.0, after_look_events st.looks goes.events, goes.so, to_settle_of plan d.1.0 d.0 own seen here c.end_find.new.held (after_look_events st.looks goes.events) some goes.ends) }

pub returns-then-is_to_settle-clause-goes : goal.returns-then-is_to_settle-clause-goes
returns-then-is_to_settle-clause-goes g c phase turns now =
    let plan = c.args.plan.now in
    let r = c.run.inside in
    let w = c.world.inside in
    let own : ProxyOwn = own_of r.rounds r.sizes.marks r.held r.no_more in
    let seen : ProxyOutside = outside_of (g.N.Line.view w.updates) (g.K.Keeper.handed w.keep) (g.K.Keeper.kept w.keep) (g.K.Keeper.faults w.keep) (g.C.Clock.answers w.clock) w.looks in (
      c.now-now.result,
      λ start run.
          let here : RunsProxySo (proxy_at phase now turns) plan start own seen =
          subst (λ (o : ProxyOutside). RunsProxySo (proxy_at phase now turns) plan start own o) (sym c.world.view_is) (subst (λ (o : ProxyOwn). RunsProxySo (proxy_at phase now turns) plan start o c.args.world.now) (sym c.run.view_is) run) in
          let st = after_proxy_events start.first before_proxy here.events in
          let goes = c.end_find.ensures.goes (proxy_look_at plan start.first st) (proxy_looks_start start) st.looks refl refl here.has.so.looks here.stands.left in
          find_settled plan start (proxy_at phase now turns) own seen here c.end_find.new.held c.settle_waiting.new.held c.end_find.new.world c.settle_waiting.new.world c.now-now.result (g.C.Clock.answers c.now-now.new.self)
          goes c.end_find.ensures.door (sym c.is_to_settle.ensures ∙ c.if-is_to_settle.true) c.end_find.ensures.closed c.now-now.ensures.told
          (λ state lists ending so settle. c.settle_waiting.ensures.goes (proxy_looks_start start) state lists ending so settle) c.settle_waiting.ensures.door c.settle_waiting.ensures.over,
    )

pub returns-else-is_to_settle-clause-goes : goal.returns-else-is_to_settle-clause-goes
returns-else-is_to_settle-clause-goes g c phase turns now =
    let plan = c.args.plan.now in
    let r = c.run.inside in
    let w = c.world.inside in
    let own : ProxyOwn = own_of r.rounds r.sizes.marks r.held r.no_more in
    let seen : ProxyOutside = outside_of (g.N.Line.view w.updates) (g.K.Keeper.handed w.keep) (g.K.Keeper.kept w.keep) (g.K.Keeper.faults w.keep) (g.C.Clock.answers w.clock) w.looks in (
      now,
      λ start run.
          let here : RunsProxySo (proxy_at phase now turns) plan start own seen =
          subst (λ (o : ProxyOutside). RunsProxySo (proxy_at phase now turns) plan start own o) (sym c.world.view_is) (subst (λ (o : ProxyOwn). RunsProxySo (proxy_at phase now turns) plan start o c.args.world.now) (sym c.run.view_is) run) in
          let st = after_proxy_events start.first before_proxy here.events in
          let goes = c.end_find.ensures.goes (proxy_look_at plan start.first st) (proxy_looks_start start) st.looks refl refl here.has.so.looks here.stands.left in
          find_lost plan start (proxy_at phase now turns) own seen here c.end_find.new.held c.end_find.new.world goes c.end_find.ensures.door (sym c.is_to_settle.ensures ∙ c.if-is_to_settle.false),
    )
