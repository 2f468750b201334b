use Rattle.std.proofs.Common.{◌+◌, sym, subst}
use Rattle.proxy_run.specs.SoFar.{ProxyOutside}
use Rattle.proxy_run.specs.State.ProxyPhase.{Between, Ending}
use Rattle.proxy_run.specs.Steps.{RunsProxySo, proxy_at}
use Rattle.proxy_run.proofs.TurnSteps.{turn_begins}
use Rattle.proxy_run.proofs.Views.{outside_of}
use Rattle.proxy_run.proofs.turning.take_turn.Goals as goal

pub begin_due-requires-clause-running : goal.begin_due-requires-clause-running
begin_due-requires-clause-running g c =
    let run = c.requires.running in
    let w = c.world.inside in
    let seen : ProxyOutside = outside_of (g.N.Line.view w.updates) (g.K.Keeper.handed w.keep) (g.K.Keeper.kept w.keep) (g.K.Keeper.faults w.keep) (g.C.Clock.answers w.clock) w.looks in
    let here = subst (λ (o : ProxyOutside). RunsProxySo (proxy_at Between run.0 run.1) c.args.plan.now run.2.0 c.args.run.now o) (sym c.world.view_is) run.2.1 in
    (run.1 + 1, (run.2.0, turn_begins c.args.plan.now run.2.0 run.0 c.now-now.result run.1 c.args.run.now seen (g.C.Clock.answers c.now-now.new.self) here c.requires.goes_on c.requires.more_come c.requires.more c.now-now.ensures.told))

pub end_answered-requires : goal.end_answered-requires
end_answered-requires g c =
    let run = c.requires.running in
    let w = c.world.inside in
    let seen : ProxyOutside = outside_of (g.N.Line.view w.updates) (g.K.Keeper.handed w.keep) (g.K.Keeper.kept w.keep) (g.K.Keeper.faults w.keep) (g.C.Clock.answers w.clock) w.looks in
    let here = subst (λ (o : ProxyOutside). RunsProxySo (proxy_at Between run.0 run.1) c.args.plan.now run.2.0 c.args.run.now o) (sym c.world.view_is) run.2.1 in
    let so = turn_begins c.args.plan.now run.2.0 run.0 c.now-now.result run.1 c.args.run.now seen (g.C.Clock.answers c.now-now.new.self) here c.requires.goes_on c.requires.more_come c.requires.more c.now-now.ensures.told in
    record { running = (proxy_at Ending c.now-now.result (run.1 + 1), (run.2.0, c.begin_due.ensures (run.1 + 1) run.2.0 so)) }

pub take_next-requires : goal.take_next-requires
take_next-requires g c =
    let run = c.requires.running in
    let w = c.world.inside in
    let seen : ProxyOutside = outside_of (g.N.Line.view w.updates) (g.K.Keeper.handed w.keep) (g.K.Keeper.kept w.keep) (g.K.Keeper.faults w.keep) (g.C.Clock.answers w.clock) w.looks in
    let here = subst (λ (o : ProxyOutside). RunsProxySo (proxy_at Between run.0 run.1) c.args.plan.now run.2.0 c.args.run.now o) (sym c.world.view_is) run.2.1 in
    let so = turn_begins c.args.plan.now run.2.0 run.0 c.now-now.result run.1 c.args.run.now seen (g.C.Clock.answers c.now-now.new.self) here c.requires.goes_on c.requires.more_come c.requires.more c.now-now.ensures.told in
    let later = c.end_answered.ensures.goes Ending (run.1 + 1) c.now-now.result in
    record { running = (proxy_at Ending later.0 (run.1 + 1), (run.2.0, later.1 run.2.0 (c.begin_due.ensures (run.1 + 1) run.2.0 so))) }

pub returns : goal.returns
returns g c before turns =
    let w = c.world.inside in
    let seen : ProxyOutside = outside_of (g.N.Line.view w.updates) (g.K.Keeper.handed w.keep) (g.K.Keeper.kept w.keep) (g.K.Keeper.faults w.keep) (g.C.Clock.answers w.clock) w.looks in
    let ended = c.end_answered.ensures.goes Ending (turns + 1) c.now-now.result in
    let later = c.take_next.ensures ended.0 (turns + 1) in (
      later.0,
      λ start run.
          let here = subst (λ (o : ProxyOutside). RunsProxySo (proxy_at Between before turns) c.args.plan.now start c.args.run.now o) (sym c.world.view_is) run in
          let begun = turn_begins c.args.plan.now start before c.now-now.result turns c.args.run.now seen (g.C.Clock.answers c.now-now.new.self) here c.requires.goes_on c.requires.more_come c.requires.more c.now-now.ensures.told in
          later.1 start (ended.1 start (c.begin_due.ensures (turns + 1) start begun)),
    )
