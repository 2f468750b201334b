use Rattle.std.proofs.Common.{◌≡◌, sym, ap, ◌∙◌, subst}
use Rattle.client_line.specs.Lines.{LineView}
use Rattle.proxy_run.specs.SoFar.{ProxyOutside}
use Rattle.proxy_run.specs.Steps.{RunsProxySo, proxy_at}
use Rattle.proxy_run.proofs.Views.{looks_outside, outside_of}
use Rattle.proxy_run.proofs.turning.end_answered_find.Goals as goal

pub returns-then-is_answered : goal.returns-then-is_answered
returns-then-is_answered g c =
    let seen : ProxyOutside = outside_of (g.N.Line.view c.world-inside.inside.0.1.0) (g.K.Keeper.handed c.world-inside.inside.0.0) (g.K.Keeper.kept c.world-inside.inside.0.0) (g.K.Keeper.faults c.world-inside.inside.0.0) (g.C.Clock.answers c.world-inside.inside.0.1.1.0) (looks_outside (g.M.Line.view c.world-inside.inside.0.1.1.1.0.finds) (g.O.Sink.contents c.world-inside.inside.0.1.1.1.0.out) (g.D.Door.log c.world-inside.inside.0.1.1.1.0.door) (g.D.Door.coming c.world-inside.inside.0.1.1.1.0.door) (g.O.Sink.faults c.world-inside.inside.0.1.1.1.0.out) (g.D.Door.faults c.world-inside.inside.0.1.1.1.0.door)) in
    let is : seen ≡ c.args.world.now = ap (λ w. outside_of (g.N.Line.view w.updates) (g.K.Keeper.handed w.keep) (g.K.Keeper.kept w.keep) (g.K.Keeper.faults w.keep) (g.C.Clock.answers w.clock) w.looks) c.world-inside.view_is ∙ c.world.view_is in
    record {
      goes = λ phase turns now.
          let later = c.end_and_settle.ensures.goes phase turns now in (
            later.0,
            λ start run. later.1 start (subst (λ (l : LineView). RunsProxySo (proxy_at phase now turns) c.args.plan.now start c.args.run.now (outside_of (g.N.Line.view c.world-inside.inside.0.1.0) (g.K.Keeper.handed c.world-inside.inside.0.0) (g.K.Keeper.kept c.world-inside.inside.0.0) (g.K.Keeper.faults c.world-inside.inside.0.0) (g.C.Clock.answers c.world-inside.inside.0.1.1.0) (looks_outside l (g.O.Sink.contents c.world-inside.inside.0.1.1.1.0.out) (g.D.Door.log c.world-inside.inside.0.1.1.1.0.door) (g.D.Door.coming c.world-inside.inside.0.1.1.1.0.door) (g.O.Sink.faults c.world-inside.inside.0.1.1.1.0.out) (g.D.Door.faults c.world-inside.inside.0.1.1.1.0.door)))) (sym c.is_answered.ensures)
                (subst (λ (o : ProxyOutside). RunsProxySo (proxy_at phase now turns) c.args.plan.now start c.args.run.now o) (sym is) run)),
          );
    }

pub returns-else-is_answered : goal.returns-else-is_answered
returns-else-is_answered g c =
    let seen : ProxyOutside = outside_of (g.N.Line.view c.world-inside.inside.0.1.0) (g.K.Keeper.handed c.world-inside.inside.0.0) (g.K.Keeper.kept c.world-inside.inside.0.0) (g.K.Keeper.faults c.world-inside.inside.0.0) (g.C.Clock.answers c.world-inside.inside.0.1.1.0) (looks_outside (g.M.Line.view c.world-inside.inside.0.1.1.1.0.finds) (g.O.Sink.contents c.world-inside.inside.0.1.1.1.0.out) (g.D.Door.log c.world-inside.inside.0.1.1.1.0.door) (g.D.Door.coming c.world-inside.inside.0.1.1.1.0.door) (g.O.Sink.faults c.world-inside.inside.0.1.1.1.0.out) (g.D.Door.faults c.world-inside.inside.0.1.1.1.0.door)) in
    let is : seen ≡ c.args.world.now = ap (λ w. outside_of (g.N.Line.view w.updates) (g.K.Keeper.handed w.keep) (g.K.Keeper.kept w.keep) (g.K.Keeper.faults w.keep) (g.C.Clock.answers w.clock) w.looks) c.world-inside.view_is ∙ c.world.view_is in
    record {
      goes = λ phase turns now. (
        now,
        λ start run. subst (λ (l : LineView). RunsProxySo (proxy_at phase now turns) c.args.plan.now start c.args.run.now (outside_of (g.N.Line.view c.world-inside.inside.0.1.0) (g.K.Keeper.handed c.world-inside.inside.0.0) (g.K.Keeper.kept c.world-inside.inside.0.0) (g.K.Keeper.faults c.world-inside.inside.0.0) (g.C.Clock.answers c.world-inside.inside.0.1.1.0) (looks_outside l (g.O.Sink.contents c.world-inside.inside.0.1.1.1.0.out) (g.D.Door.log c.world-inside.inside.0.1.1.1.0.door) (g.D.Door.coming c.world-inside.inside.0.1.1.1.0.door) (g.O.Sink.faults c.world-inside.inside.0.1.1.1.0.out) (g.D.Door.faults c.world-inside.inside.0.1.1.1.0.door)))) (sym c.is_answered.ensures)
            (subst (λ (o : ProxyOutside). RunsProxySo (proxy_at phase now turns) c.args.plan.now start c.args.run.now o) (sym is) run),
      );
    }

pub returns-then-not-is_find_open : goal.returns-then-not-is_find_open
returns-then-not-is_find_open g c = record { goes = λ phase turns now. (now, λ start run. run) }
