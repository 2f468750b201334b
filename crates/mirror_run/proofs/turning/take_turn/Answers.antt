use Rattle.std.proofs.Common.{◌+◌, sym, subst}
use Rattle.mirror_run.specs.SoFar.{MirrorOutside}
use Rattle.mirror_run.specs.State.Phase.{Between, Ending}
use Rattle.mirror_run.specs.Steps.{RunsSo, run_at}
use Rattle.mirror_run.proofs.TurnSteps.{turn_begins}
use Rattle.mirror_run.proofs.Views.{outside_of}
use Rattle.mirror_run.proofs.turning.take_turn.Goals as goal

pub begin_due-requires-clause-running : goal.begin_due-requires-clause-running
begin_due-requires-clause-running g c =
    let run = c.requires.running in
    let seen : MirrorOutside = outside_of (g.N.Line.view c.world.inside.updates) (g.M.Line.view c.world.inside.finds) (g.K.Keeper.handed c.world.inside.keep) (g.K.Keeper.kept c.world.inside.keep) (g.O.Sink.contents c.world.inside.out) (g.C.Clock.answers c.world.inside.clock) (g.D.Door.log c.world.inside.door) (g.D.Door.coming c.world.inside.door) (g.O.Sink.faults c.world.inside.out) (g.K.Keeper.faults c.world.inside.keep) (g.D.Door.faults c.world.inside.door) in
    let here = subst (λ (w : MirrorOutside). RunsSo (run_at Between run.0 run.1) c.args.plan.now run.2.0 c.args.run.now w) (sym c.world.view_is) run.2.1 in
    (run.1 + 1, (run.2.0, turn_begins c.args.plan.now run.2.0 run.0 c.now-now.result run.1 c.args.run.now seen (g.C.Clock.answers c.now-now.new.self) here c.requires.goes_on c.requires.more_come c.requires.more c.now-now.ensures.told))

pub end_answered-requires : goal.end_answered-requires
end_answered-requires g c =
    let run = c.requires.running in
    let seen : MirrorOutside = outside_of (g.N.Line.view c.world.inside.updates) (g.M.Line.view c.world.inside.finds) (g.K.Keeper.handed c.world.inside.keep) (g.K.Keeper.kept c.world.inside.keep) (g.O.Sink.contents c.world.inside.out) (g.C.Clock.answers c.world.inside.clock) (g.D.Door.log c.world.inside.door) (g.D.Door.coming c.world.inside.door) (g.O.Sink.faults c.world.inside.out) (g.K.Keeper.faults c.world.inside.keep) (g.D.Door.faults c.world.inside.door) in
    let here = subst (λ (w : MirrorOutside). RunsSo (run_at Between run.0 run.1) c.args.plan.now run.2.0 c.args.run.now w) (sym c.world.view_is) run.2.1 in
    let so = turn_begins c.args.plan.now run.2.0 run.0 c.now-now.result run.1 c.args.run.now seen (g.C.Clock.answers c.now-now.new.self) here c.requires.goes_on c.requires.more_come c.requires.more c.now-now.ensures.told in
    record { running = (run_at Ending c.now-now.result (run.1 + 1), (run.2.0, c.begin_due.ensures (run.1 + 1) run.2.0 so)) }

pub returns : goal.returns
returns g c before turns =
    let later = c.take_next.ensures (turns + 1) in (
      later.0,
      λ start run.
          let seen : MirrorOutside = outside_of (g.N.Line.view c.world.inside.updates) (g.M.Line.view c.world.inside.finds) (g.K.Keeper.handed c.world.inside.keep) (g.K.Keeper.kept c.world.inside.keep) (g.O.Sink.contents c.world.inside.out) (g.C.Clock.answers c.world.inside.clock) (g.D.Door.log c.world.inside.door) (g.D.Door.coming c.world.inside.door) (g.O.Sink.faults c.world.inside.out) (g.K.Keeper.faults c.world.inside.keep) (g.D.Door.faults c.world.inside.door) in
          let here = subst (λ (w : MirrorOutside). RunsSo (run_at Between before turns) c.args.plan.now start c.args.run.now w) (sym c.world.view_is) run in
          let begun = turn_begins c.args.plan.now start before c.now-now.result turns c.args.run.now seen (g.C.Clock.answers c.now-now.new.self) here c.requires.goes_on c.requires.more_come c.requires.more c.now-now.ensures.told in
          later.1 start (c.end_answered.ensures.goes (run_at Ending c.now-now.result (turns + 1)) start (c.begin_due.ensures (turns + 1) start begun)),
    )
