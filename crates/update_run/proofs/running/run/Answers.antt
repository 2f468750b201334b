use Rattle.update_run.proofs.Endings.{same_keeping, lists_to_run, run_any}
use Rattle.update_run.proofs.running.run.Goals as goal

pub run_opened-requires-clause-some : goal.run_opened-requires-clause-some
run_opened-requires-clause-some g c = lists_to_run c.args.plan.now.names c.as_slice.result.now _ _ _ c.as_slice.ensures c.in-Ok.ensures.loaded c.requires.some

pub returns-clause-ends : goal.returns-clause-ends
returns-clause-ends g c =
    run_any c.run_opened.result c.args.plan.now c.as_slice.result.now c.in-Ok.client _ _ _ _ c.as_slice.ensures c.in-Ok.ensures.loaded
    c.in-Ok.ensures.opened
    (same_keeping _ _ _ _ c.in-Ok.ensures.handed c.in-Ok.ensures.kept) c.run_opened.ensures.ends
