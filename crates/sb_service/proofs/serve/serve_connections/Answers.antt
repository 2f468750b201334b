use Rattle.std.proofs.Common.{◌+◌, ◌<◌, [], ap, refl, ◌∙◌, arith, Ok}
use Rattle.sb_service.specs.Stops.{status_of}
use Rattle.sb_service.proofs.Turns.{held, no_turn, one_more, stopped}
use Rattle.sb_service.proofs.serve.serve_connections.Goals as goal

pub loop-taken-init : goal.loop-taken-init
loop-taken-init g c = ([], refl, no_turn _ _, refl, refl, refl, c.requires)

pub loop-taken-preserved : goal.loop-taken-preserved
loop-taken-preserved g c =
    let inv = c.loop-taken.invariant in
    let is = c.in-Ok-Looking.is in
    let more = one_more c.args.plan.now (c.loop-taken.taken + 1) inv.0 _ _ _ (omega (arith, inv.1)) inv.2 (c.take_next.ensures.looking (is ∙ ap Ok c.in-Ok-Looking.field-0-is)) in (
      more.0,
      more.1,
      more.2,
      c.take_next.ensures.read_kept (λ e. cc) ∙ inv.3,
      c.take_next.ensures.kept (λ e. cc) ∙ inv.4,
      c.take_next.ensures.door_kept (λ e. cc) ∙ inv.5,
      c.take_next.ensures.answers,
    )

pub take_next-requires : goal.take_next-requires
take_next-requires g c = c.loop-taken.invariant.6

pub returns-in-Err-clause-run : goal.returns-in-Err-clause-run
returns-in-Err-clause-run g c =
    let inv = c.loop-taken.invariant in
    let few : c.loop-taken.taken < c.args.plan.now.connections = c.loop-taken-test.true in
    stopped c.args.plan.now.hold c.args.plan.now c.args.plan.now.connections (c.loop-taken.taken + 1) (status_of c.in-Err.stop) inv.0 _ _ _
    (omega (arith, inv.1)) (omega (arith, few)) inv.2 c.in-Err.ensures.stops

pub returns-in-Ok-Holding-clause-run : goal.returns-in-Ok-Holding-clause-run
returns-in-Ok-Holding-clause-run g c =
    let inv = c.loop-taken.invariant in
    let few : c.loop-taken.taken < c.args.plan.now.connections = c.loop-taken-test.true in
    let turn = c.take_next.ensures.holding (c.in-Ok-Holding.is ∙ ap Ok c.in-Ok-Holding.field-0-is) in
    held c.args.plan.now.hold c.args.plan.now c.args.plan.now.connections (c.loop-taken.taken + 1) (status_of c.serve_held.result) inv.0 _ _ _ _
    (omega (arith, inv.1)) (omega (arith, few)) inv.2 turn.0 turn.1 (c.serve_held.ensures.run _)

pub returns-in-Err-clause-read_kept : goal.returns-in-Err-clause-read_kept
returns-in-Err-clause-read_kept g c = λ other. c.take_next.ensures.read_kept (λ e. other (cc (c.in-Err.is, e))) ∙ c.loop-taken.invariant.3

pub returns-in-Err-clause-kept : goal.returns-in-Err-clause-kept
returns-in-Err-clause-kept g c = λ other. c.take_next.ensures.kept (λ e. other (cc (c.in-Err.is, e))) ∙ c.loop-taken.invariant.4

pub returns-in-Err-clause-door_kept : goal.returns-in-Err-clause-door_kept
returns-in-Err-clause-door_kept g c = λ other. c.take_next.ensures.door_kept (λ e. other (cc (c.in-Err.is, e))) ∙ c.loop-taken.invariant.5
