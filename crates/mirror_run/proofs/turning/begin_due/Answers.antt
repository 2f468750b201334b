use Rattle.std.proofs.Common.{true, false, sym, ◌∙◌}
use Rattle.mirror_run.proofs.TurnSteps.{all_begun, round_not_due, stopped_begun}
use Rattle.mirror_run.proofs.turning.begin_due.Goals as goal

pub returns-then-is_stopped : goal.returns-then-is_stopped
returns-then-is_stopped g c turns start run =
    stopped_begun c.args.plan.now start c.args.now turns c.begin_round.new.run c.begin_round.new.world (c.begin_round.ensures.goes turns start run) (sym c.is_stopped.ensures ∙ c.if-is_stopped.true)

pub settle_finds-requires-clause-running : goal.settle_finds-requires-clause-running
settle_finds-requires-clause-running g c =
    let run = c.requires.running in
    (run.0, (run.1.0, c.begin_round.ensures.goes run.0 run.1.0 run.1.1))

pub returns : goal.returns
returns g c turns start run =
    let between = c.begin_round.ensures.goes turns start run in
    let going = sym c.is_stopped.ensures ∙ c.if-is_stopped.false in
    let round = round_not_due c.args.plan.now.updates.rounds c.args.now c.begin_round.new.run c.settle_finds.new.run going c.begin_round.ensures.done c.settle_finds.ensures.rounds in
    all_begun c.args.plan.now start c.args.now turns c.settle_finds.new.run c.settle_finds.new.world (c.settle_finds.ensures.goes turns start between) round c.settle_finds.ensures.done
