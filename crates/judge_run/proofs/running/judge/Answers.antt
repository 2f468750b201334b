use Rattle.judge_run.proofs.Openings.{begun_ends, same_keeping}
use Rattle.judge_run.proofs.running.judge.Goals as goal

pub returns-in-Ok-clause-ends : goal.returns-in-Ok-clause-ends
returns-in-Ok-clause-ends g c =
    let kept = same_keeping _ _ _ _ c.in-Ok.ensures.handed c.in-Ok.ensures.kept in
    begun_ends c.judge_alone.result c.args.plan.now c.as_slice.result.now c.in-Ok.begun _ _ _ _ c.as_slice.ensures kept c.in-Ok.ensures.begun (c.judge_alone.ensures.ends _)

pub returns-in-Ok-2-clause-ends : goal.returns-in-Ok-2-clause-ends
returns-in-Ok-2-clause-ends g c =
    begun_ends c.judge_beside.result c.args.plan.now c.as_slice.result.now c.in-Ok.begun _ _ _ _ c.as_slice.ensures (same_keeping _ _ _ _ c.in-Ok.ensures.handed c.in-Ok.ensures.kept) c.in-Ok.ensures.begun
    c.judge_beside.ensures.ends
