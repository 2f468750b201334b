use Rattle.std.proofs.Common.{refl, inr}
use Rattle.proxy_run.specs.LookAllowed.{HasNoLookLeft, look_at}
use Rattle.proxy_run.specs.LookSteps.{HasGivenAllBack}
use Rattle.proxy_run.proofs.LookAsking.{due_of}
use Rattle.proxy_run.proofs.LookStepping.{goes_ends}
use Rattle.proxy_run.proofs.asking.begin_find.Goals as goal

pub returns-in_default-clause-goes : goal.returns-in_default-clause-goes
returns-in_default-clause-goes g c start state ending so left =
    let due = c.is_find_due.ensures.due c.if-not-is_find_due.false in
    let at = look_at c.args.plan.now start.desk c.args.lists.now c.args.now ending in
    inr (goes_ends at start state HasGivenAllBack HasNoLookLeft c.refuse_waiting.new.held c.refuse_waiting.new.world (λ s ends. ends.left)
    (c.refuse_waiting.ensures.goes at start state refl so (due_of c.args.plan.now start state c.args.held.now c.args.world.now so c.args.lists.now c.args.now ending left due.0 due.1 due.2)))
