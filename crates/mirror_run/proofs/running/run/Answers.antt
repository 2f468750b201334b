use Rattle.std.proofs.Common.{Some, None, sym, ap, ◌∙◌, inl}
use Rattle.mirror_run.specs.SoFar.{MirrorOwn}
use Rattle.mirror_run.specs.State.Phase.{Finishing}
use Rattle.mirror_run.specs.Steps.{run_at}
use Rattle.mirror_run.proofs.TurnSteps.{has_ended}
use Rattle.mirror_run.proofs.running.run.Goals as goal

pub take_turns-requires-clause-running : goal.take_turns-requires-clause-running
take_turns-requires-clause-running g c = let opened = c.in_ok-run.ensures.opened in (opened.2.0, (opened.0, opened.2.1))

pub finish-requires : goal.finish-requires
finish-requires g c =
    let opened = c.in_ok-run.ensures.opened in
    let turned = c.take_turns.ensures opened.0 opened.2 in
    record { running = (run_at Finishing turned.0 turned.1, (opened.0, turned.2)) }

pub returns-in-Some : goal.returns-in-Some
returns-in-Some g c =
    let opened = c.in_ok-run.ensures.opened in
    let turned = c.take_turns.ensures opened.0 opened.2 in
    let ended = c.finish.ensures.goes turned.0 turned.1 opened.0 turned.2 in
    record { runs = inl (opened.0, opened.1, has_ended c.args.plan.now opened.0 turned.0 turned.1 c.finish.new.run c.finish.new.world (Some c.in-Some.stop) ended c.finish.ensures.no_round c.finish.ensures.no_find c.finish.ensures.nobody (sym c.in-Some.is ∙ ap (λ (own : MirrorOwn). own.stop) c.run.view_is)) }

pub returns : goal.returns
returns g c =
    let opened = c.in_ok-run.ensures.opened in
    let turned = c.take_turns.ensures opened.0 opened.2 in
    let ended = c.finish.ensures.goes turned.0 turned.1 opened.0 turned.2 in
    record { runs = inl (opened.0, opened.1, has_ended c.args.plan.now opened.0 turned.0 turned.1 c.finish.new.run c.finish.new.world None ended c.finish.ensures.no_round c.finish.ensures.no_find c.finish.ensures.nobody (sym c.in-None.is ∙ ap (λ (own : MirrorOwn). own.stop) c.run.view_is)) }
