use Rattle.std.proofs.Common.{subst}
use Rattle.url_checker.specs.declared.findings.Checked.{Checked}
use Rattle.parallel_checks.specs.Checks.{IsCheckOf}
use Rattle.judge_run.proofs.OneCheck.{found_in, refused_as}
use Rattle.judge_run.proofs.resolving.resolve_check.Goals as goal

pub returns-in-Found-clause-stopped : goal.returns-in-Found-clause-stopped
returns-in-Found-clause-stopped g c = λ line more is.
    let found = subst (λ (check : Checked). IsCheckOf c.args.publisher.now.list line check) c.in-Found.is is in
    c.resolve_found.ensures.stopped line more (found_in c.args.publisher.now.list line c.in-Found.finding found)

pub returns-in-Refused-clause-judged : goal.returns-in-Refused-clause-judged
returns-in-Refused-clause-judged g c = λ line is.
    refused_as c.args.plan.now c.args.publisher.now.list _ _ line c.args.check c.in-Refused.fault c.in-Refused.is is
