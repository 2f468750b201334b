use Rattle.std.proofs.Common.{◌≡◌, ◌||◌, ℕ, List, true, refl, sym, ap, ◌∙◌, subst}
use Rattle.std.specs.Prelude.{is_some, Err, Ok}
use Rattle.mirror_run.specs.Events.{first_cause}
use Rattle.mirror_run.specs.SoFar.{MirrorOutside, MirrorOwn, rounds_start}
use Rattle.mirror_run.specs.State.{told_wait}
use Rattle.mirror_run.specs.Steps.{IsRunning, RunsSo}
use Rattle.mirror_run.specs.declared.stop.MirrorStop.TheVariants as stop
use Rattle.update_run.specs.declared.stop.RunStop.TheVariants as run_stop
use Rattle.mirror_run.proofs.Views.{outside_of, own_of}
use Rattle.mirror_rounds.specs.Ended.{round_view}
use Rattle.mirror_run.specs.Events.{after_events}
use Rattle.mirror_run.specs.State.{before_all}
use Rattle.update_client.specs.Held.{Held}
use Rattle.mirror_run.proofs.RoundSteps.{halts_keeps, halts_outs, made_open, round_ends, round_halts, written_so}
use Rattle.mirror_run.proofs.RunFacts.{round_session}
use Rattle.mirror_run.proofs.rounds.end_round.Goals.{in-Ok, in-Err}
use Rattle.mirror_run.proofs.rounds.end_round.Goals as goal

pub end-requires-clause-session : goal.end-requires-clause-session
end-requires-clause-session g c =
    let plan = c.args.plan.now in
    let at = c.requires.running.0 in
    let own : MirrorOwn = own_of c.run.inside.rounds c.run.inside.finds c.run.inside.connections c.run.inside.wait c.run.inside.answered c.run.inside.no_more c.run.inside.stop in
    let seen : MirrorOutside = outside_of (g.N.Line.view c.world.inside.updates) (g.M.Line.view c.world.inside.finds) (g.K.Keeper.handed c.world.inside.keep) (g.K.Keeper.kept c.world.inside.keep) (g.O.Sink.contents c.world.inside.out) (g.C.Clock.answers c.world.inside.clock) (g.D.Door.log c.world.inside.door) (g.D.Door.coming c.world.inside.door) (g.O.Sink.faults c.world.inside.out) (g.K.Keeper.faults c.world.inside.keep) (g.D.Door.faults c.world.inside.door) in
    let running : IsRunning at plan own seen = subst (λ (w : MirrorOutside). IsRunning at plan own w) (sym c.world.view_is) (subst (λ (o : MirrorOwn). IsRunning at plan o c.args.world.now) (sym c.run.view_is) c.requires.running.1) in
    round_session at plan own seen running (ap (λ (o : MirrorOwn). is_some o.rounds.opened) c.run.view_is ∙ c.requires.opened)

pub returns-clause-goes : goal.returns-clause-goes
returns-clause-goes g c at start run =
    let plan = c.args.plan.now in
    let own : MirrorOwn = own_of c.run.inside.rounds c.run.inside.finds c.run.inside.connections c.run.inside.wait c.run.inside.answered c.run.inside.no_more c.run.inside.stop in
    let seen : MirrorOutside = outside_of (g.N.Line.view c.world.inside.updates) (g.M.Line.view c.world.inside.finds) (g.K.Keeper.handed c.world.inside.keep) (g.K.Keeper.kept c.world.inside.keep) (g.O.Sink.contents c.world.inside.out) (g.C.Clock.answers c.world.inside.clock) (g.D.Door.log c.world.inside.door) (g.D.Door.coming c.world.inside.door) (g.O.Sink.faults c.world.inside.out) (g.K.Keeper.faults c.world.inside.keep) (g.D.Door.faults c.world.inside.door) in
    let seen' : MirrorOutside = outside_of (g.N.Line.view c.end.new.line) (g.M.Line.view c.world.inside.finds) (g.K.Keeper.handed c.end.new.keep) (g.K.Keeper.kept c.end.new.keep) (g.O.Sink.contents c.end.new.out) (g.C.Clock.answers c.world.inside.clock) (g.D.Door.log c.world.inside.door) (g.D.Door.coming c.world.inside.door) (g.O.Sink.faults c.end.new.out) (g.K.Keeper.faults c.end.new.keep) (g.D.Door.faults c.world.inside.door) in
    let run_now : RunsSo at plan start own seen = subst (λ (w : MirrorOutside). RunsSo at plan start own w) (sym c.world.view_is) (subst (λ (o : MirrorOwn). RunsSo at plan start o c.args.world.now) (sym c.run.view_is) run) in
    let opened : is_some own.rounds.opened ≡ true = ap (λ (o : MirrorOwn). is_some o.rounds.opened) c.run.view_is ∙ c.requires.opened in
    let view = round_view seen.updates seen.keeper seen.output in
    let view' = round_view seen'.updates seen'.keeper seen'.output in
    let rounds = (after_events start.first before_all run_now.events).rounds in
    let made = made_open plan start at own seen run_now opened in
    elim c.match-end.branch [
      | in-Ok w ↦ rw w.run-is (
          let ends = w.in-Ok.ensures.ended (rounds_start start) rounds made in
          let own' : MirrorOwn = own_of c.end.new.self c.run.inside.finds c.run.inside.connections w.wait_told-run-inside.result (c.run.inside.answered || w.in-Ok.told.answered) c.run.inside.no_more c.run.inside.stop in
          let gone = round_ends plan start at own seen run_now opened w.in-Ok.told c.end.new.self seen'.updates seen'.keeper seen'.output w.wait_told-run-inside.result (c.run.inside.answered || w.in-Ok.told.answered)
          ends refl (w.wait_told-run-inside.ensures ∙ ap (λ (ls : List Held). told_wait plan.wait (c.run.inside.answered || w.in-Ok.told.answered) ls) (w.lists-in-Ok.ensures.value ∙ w.lists.ensures)) c.end.ensures.same in
          subst (λ (n : ℕ). RunsSo at plan start own' (outside_of (g.N.Line.view c.end.new.line) (g.M.Line.view c.world.inside.finds) (g.K.Keeper.handed c.end.new.keep) (g.K.Keeper.kept c.end.new.keep) (g.O.Sink.contents c.end.new.out) (g.C.Clock.answers c.world.inside.clock) (g.D.Door.log c.world.inside.door) (g.D.Door.coming c.world.inside.door) n (g.K.Keeper.faults c.end.new.keep) (g.D.Door.faults c.world.inside.door))) (sym (w.in-Ok.ensures.output_kept (λ e. cc)))
          (subst (λ (n : ℕ). RunsSo at plan start own' (outside_of (g.N.Line.view c.end.new.line) (g.M.Line.view c.world.inside.finds) (g.K.Keeper.handed c.end.new.keep) (g.K.Keeper.kept c.end.new.keep) (g.O.Sink.contents c.end.new.out) (g.C.Clock.answers c.world.inside.clock) (g.D.Door.log c.world.inside.door) (g.D.Door.coming c.world.inside.door) (g.O.Sink.faults c.world.inside.out) n (g.D.Door.faults c.world.inside.door))) (sym (w.in-Ok.ensures.keeper_kept (λ e. cc))) gone))
      | in-Err w ↦ rw (w.run-is, w.note.ensures) (
          let stops = w.in-Err.ensures.stopped (rounds_start start) rounds made in
          let written = written_so w.in-Err.stop plan.updates (rounds_start start) rounds own.rounds view view' stops in
          round_halts plan start at own seen run_now opened w.in-Err.stop written.0 c.end.new.self seen'.updates seen'.keeper seen'.output seen'.faults (first_cause own.stop w.stop_of.result)
          w.in-Err.ensures.unheld c.end.ensures.closed (ap (first_cause own.stop) w.stop_of.ensures) stops written.1
          (halts_outs w.in-Err.stop seen.faults.output seen'.faults.output (λ e. w.in-Err.ensures.output_failed (ap Err e)) (λ n. w.in-Err.ensures.output_kept (λ e. n (cc))))
          (halts_keeps w.in-Err.stop seen.faults.keeper seen'.faults.keeper (λ e. w.in-Err.ensures.keeper_failed (ap Err e)) (λ n. w.in-Err.ensures.keeper_kept (λ e. n (cc)))) refl c.end.ensures.same)
    ]
