use Rattle.judge_run.proofs.Cases.{resolved_check}
use Rattle.judge_run.proofs.finding.resolve_finding.Goals as goal

pub returns-clause-judged : goal.returns-clause-judged
returns-clause-judged g c = λ published line states found.
    resolved_check c.args.plan.now published c.args.states.now c.args.finding _ _ _ _ line c.in_ok-verdict.verdict states found c.in_ok-verdict.ensures.resolves
