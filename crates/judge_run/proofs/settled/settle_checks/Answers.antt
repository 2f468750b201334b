use Rattle.judge_run.proofs.SettledFacts.{checks_are, checks_may, never_fall}
use Rattle.judge_run.proofs.settled.settle_checks.Goals as goal

pub returns-clause-checks : goal.returns-clause-checks
returns-clause-checks c =
    checks_are c.args.publisher.now.list c.args.run c.in_ok-checks.field-0 c.args.urls.now c.in_ok-checks.ensures.settled c.in_ok-checks.ensures.seats.count c.requires.some

pub returns-clause-may : goal.returns-clause-may
returns-clause-may c =
    checks_may c.args.publisher.now.list c.args.run c.in_ok-checks.field-0 c.args.urls.now c.in_ok-checks.ensures.settled c.in_ok-checks.ensures.seats.count c.requires.some

pub returns-clause-never_fall : goal.returns-clause-never_fall
returns-clause-never_fall c =
    never_fall c.args.publisher.now.list c.args.run c.in_ok-checks.field-0 c.args.urls.now c.in_ok-checks.ensures.settled c.in_ok-checks.ensures.seats.count c.requires.some
