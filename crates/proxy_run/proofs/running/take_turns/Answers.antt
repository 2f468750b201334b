use Rattle.std.proofs.Common.{inl, inr, arith}
use Rattle.proxy_run.proofs.TurnSteps.{run_ends}
use Rattle.proxy_run.proofs.running.take_turns.Goals as goal

pub loop-turn-init : goal.loop-turn-init
loop-turn-init g c start begins = begins

pub take_turn-requires-clause-running : goal.take_turn-requires-clause-running
take_turn-requires-clause-running g c =
    let run = c.requires.running in
    let here = c.loop-turn.invariant run.1.0 (run.0, run.1.1) in
    (here.0, c.loop-turn.turn, (run.1.0, here.1))

pub loop-turn-preserved : goal.loop-turn-preserved
loop-turn-preserved g c start begins =
    let here = c.loop-turn.invariant start begins in
    let next = c.take_turn.ensures here.0 c.loop-turn.turn in
    (next.0, next.1 start here.1)

pub returns-then-is_over : goal.returns-then-is_over
returns-then-is_over g c start begins =
    let here = c.loop-turn.invariant start begins in
    (here.0, c.loop-turn.turn, run_ends c.args.plan.now start here.0 c.loop-turn.turn c.loop-turn.run c.loop-turn.world here.1 (inl (c.is_over.ensures.over c.if-is_over.true)))

pub returns : goal.returns
returns g c start begins =
    let here = c.loop-turn.invariant start begins in
    (here.0, c.loop-turn.turn, run_ends c.args.plan.now start here.0 c.loop-turn.turn c.loop-turn.run c.loop-turn.world here.1 (inr (omega (arith, c.loop-turn.auto, c.loop-turn-test.false))))
