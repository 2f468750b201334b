use Rattle.std.proofs.Common.{◌+◌, ◌<◌, [], refl, ◌∙◌, arith}
use Rattle.update_run.proofs.OneByOne.{begins_steps, goes_on_writing, goes_on_taking, one_more}
use Rattle.update_run.proofs.Stopping.{stopped}
use Rattle.update_run.proofs.rounding.all_rounds.Goals as goal

pub loop-made-init : goal.loop-made-init
loop-made-init g c = ([], refl, begins_steps c.rounds_go_on.ensures.none _ 1 _ _, refl, refl, refl)

pub loop-made-preserved : goal.loop-made-preserved
loop-made-preserved g c =
    let inv = c.loop-made.invariant in
    let more = one_more c.args.plan.now (c.loop-made.made + 1) inv.0 c.args.client.now c.loop-made.client c.one_round.new.client _ _ _ c.loop-made.refused c.in-Ok.is_refused goes_on_writing (goes_on_taking c.rounds_go_on.ensures.one_more) (omega (arith, inv.1)) inv.2 c.in-Ok.ensures.took in (
      more.0,
      more.1,
      more.2,
      c.in-Ok.ensures.output_kept (λ e. cc) ∙ inv.3,
      c.in-Ok.ensures.keeper_kept (λ e. cc) ∙ inv.4,
      c.one_round.ensures.same ∙ inv.5,
    )

pub returns-in-Err-clause-stopped : goal.returns-in-Err-clause-stopped
returns-in-Err-clause-stopped g c =
    let inv = c.loop-made.invariant in
    let few : c.loop-made.made < c.args.plan.now.rounds = c.loop-made-test.true in
    stopped c.in-Err.stop c.args.plan.now (c.loop-made.made + 1) inv.0 c.args.client.now c.loop-made.client _ _ _ c.loop-made.refused c.rounds_go_on.ensures.one_more (omega (arith, inv.1)) (omega (arith, few)) inv.2 c.in-Err.ensures.stopped
