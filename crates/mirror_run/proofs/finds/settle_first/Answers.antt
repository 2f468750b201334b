use Rattle.std.proofs.Common.{false}
use Rattle.mirror_run.specs.Events.{after_events}
use Rattle.mirror_run.specs.State.{before_all}
use Rattle.mirror_run.specs.State.Phase.{Beginning}
use Rattle.mirror_run.specs.Steps.{Anyhow, run_at}
use Rattle.mirror_run.proofs.FindSteps.{first_refused}
use Rattle.mirror_run.proofs.RunFacts.{because_not}
use Rattle.mirror_run.proofs.finds.settle_first.Goals as goal

pub returns-else-may_begin_find-clause-goes : goal.returns-else-may_begin_find-clause-goes
returns-else-may_begin_find-clause-goes g c turns start run =
    let plan = c.args.plan.now in
    let at = run_at Beginning c.args.now turns in
    let st = after_events start.first before_all run.events in
    first_refused plan start at c.args.run.now c.args.world.now run c.refuse_first.new.run c.refuse_first.new.world Anyhow
    (c.refuse_first.ensures.gives start.outside.door st.taken st.over run.has.so.connections)
    (λ first rest how waits ends. because_not plan start c.args.now turns c.args.run.now c.args.world.now run c.requires.due (c.may_begin_find.ensures.held c.if-may_begin_find.false) first rest how waits)
