use Rattle.std.proofs.Common.{◌≡◌, true, false, None, refl, sym, ap, ◌∙◌, subst}
use Rattle.std.specs.Prelude.{is_some, Err, Ok}
use Rattle.mirror_rounds.specs.Rounds.{MirrorSeen}
use Rattle.mirror_run.specs.Events.{first_cause}
use Rattle.mirror_run.specs.SoFar.{MirrorOutside, MirrorOwn, rounds_start}
use Rattle.mirror_run.specs.State.Phase.{Beginning}
use Rattle.mirror_run.specs.Steps.{RunsSo, own_round_is_due, run_at}
use Rattle.mirror_run.specs.declared.stop.MirrorStop.TheVariants as stop
use Rattle.update_run.specs.declared.stop.RunStop.TheVariants as run_stop
use Rattle.mirror_run.proofs.Views.{outside_of, own_of}
use Rattle.mirror_run.proofs.RoundSteps.{round_begins, round_refused}
use Rattle.mirror_run.proofs.rounds.begin_round.Goals.{in-Ok, in-Err}
use Rattle.mirror_run.proofs.rounds.begin_round.Goals as goal

pub returns-clause-goes : goal.returns-clause-goes
returns-clause-goes g c turns start run =
    let plan = c.args.plan.now in
    let at = run_at Beginning c.args.now turns in
    let own : MirrorOwn = own_of c.run.inside.rounds c.run.inside.finds c.run.inside.connections c.run.inside.wait c.run.inside.answered c.run.inside.no_more c.run.inside.stop in
    let seen : MirrorOutside = outside_of (g.N.Line.view c.world.inside.updates) (g.M.Line.view c.world.inside.finds) (g.K.Keeper.handed c.world.inside.keep) (g.K.Keeper.kept c.world.inside.keep) (g.O.Sink.contents c.world.inside.out) (g.C.Clock.answers c.world.inside.clock) (g.D.Door.log c.world.inside.door) (g.D.Door.coming c.world.inside.door) (g.O.Sink.faults c.world.inside.out) (g.K.Keeper.faults c.world.inside.keep) (g.D.Door.faults c.world.inside.door) in
    let seen' : MirrorOutside = outside_of (g.N.Line.view c.begin.new.line) (g.M.Line.view c.world.inside.finds) (g.K.Keeper.handed c.world.inside.keep) (g.K.Keeper.kept c.world.inside.keep) (g.O.Sink.contents c.world.inside.out) (g.C.Clock.answers c.world.inside.clock) (g.D.Door.log c.world.inside.door) (g.D.Door.coming c.world.inside.door) (g.O.Sink.faults c.world.inside.out) (g.K.Keeper.faults c.world.inside.keep) (g.D.Door.faults c.world.inside.door) in
    let run_now : RunsSo at plan start own seen = subst (λ (w : MirrorOutside). RunsSo at plan start own w) (sym c.world.view_is) (subst (λ (o : MirrorOwn). RunsSo at plan start o c.args.world.now) (sym c.run.view_is) run) in
    let goes_on : own.stop ≡ None = ap (λ (o : MirrorOwn). o.stop) c.run.view_is ∙ c.requires.goes_on in
    let due : own_round_is_due plan.updates.rounds own c.args.now ≡ true =
    ap (λ (o : MirrorOwn). own_round_is_due plan.updates.rounds o c.args.now) c.run.view_is ∙ (sym c.is_round_due.ensures ∙ c.if-not-is_round_due.false) in
    elim c.match-begin.branch [
      | in-Ok w ↦ rw w.run-is (round_begins plan start c.args.now turns own seen run_now goes_on due c.begin.new.self (g.N.Line.view c.begin.new.line)
          c.begin.ensures.places (ap is_some w.in-Ok.ensures.opened.2) (λ rounds has. w.in-Ok.ensures.begun (rounds_start start) rounds seen.keeper has) c.begin.ensures.same)
      | in-Err w ↦ rw (w.run-is, w.note.ensures) (subst (λ (r : MirrorSeen). RunsSo at plan start (own_of r c.run.inside.finds c.run.inside.connections c.run.inside.wait c.run.inside.answered c.run.inside.no_more (first_cause c.run.inside.stop stop.OutOfMemory)) seen')
          (sym w.in-Err.ensures.kept)
          (round_refused plan start c.args.now turns own seen run_now goes_on due (g.N.Line.view c.begin.new.line) (first_cause own.stop stop.OutOfMemory) refl w.in-Err.ensures.broken_off c.begin.ensures.same))
    ]
