use Rattle.std.proofs.Common.{sym}
use Rattle.wait_rules.proofs.Delays.{many_failures}
use Rattle.wait_rules.proofs.waits.failure_delay.Goals as goal

pub returns-then-failures-ge-MANY_FAILURES : goal.returns-then-failures-ge-MANY_FAILURES
returns-then-failures-ge-MANY_FAILURES c = sym (many_failures c.args.failures c.args.word c.if-failures-ge-MANY_FAILURES.true)
