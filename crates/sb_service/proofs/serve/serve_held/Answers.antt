use Rattle.std.proofs.Common.{◌<◌, suc, refl, ◌∙◌, arith}
use Rattle.sb_service.proofs.Turns.{held_to_the_end, held_until, one_more_held}
use Rattle.sb_service.proofs.serve.serve_held.Goals as goal

pub returns-in-Some-clause-run : goal.returns-in-Some-clause-run
returns-in-Some-clause-run g c left =
    let inv = c.loop-before.invariant in
    let few : c.loop-before.before < c.args.plan.now.connections = c.loop-before-test.true in
    held_until c.args.plan.now c.args.plan.now.connections c.args.taken c.loop-before.before inv.0 _ _ _ _ inv.1 (omega (arith, few)) (inv.2 left)
    (c.in-Some.ensures.stops left c.args.plan.now.connections c.loop-before.before refl)

pub loop-before-preserved : goal.loop-before-preserved
loop-before-preserved g c =
    let inv = c.loop-before.invariant in
    let is = c.in_default.is in (
      suc inv.0,
      omega (arith, inv.1),
      λ left. (one_more_held c.args.plan.now c.args.taken c.loop-before.before inv.0 _ _ _ inv.1 (inv.2 left) (c.in_default.ensures.goes_on left)).1,
      c.serve_one_held.ensures.kept (λ e. cc) ∙ inv.3,
      c.serve_one_held.ensures.door_kept (λ e. cc) ∙ inv.4,
      c.serve_one_held.ensures.answers,
    )

pub returns-clause-run : goal.returns-clause-run
returns-clause-run g c left =
    let inv = c.loop-before.invariant in
    held_to_the_end c.args.plan.now c.args.plan.now.connections c.args.taken inv.0 _ _ (omega (arith, inv.1, c.loop-before-test.false, c.loop-before.auto.before, c.loop-before.auto.before-end, c.requires.few)) (inv.2 left)
