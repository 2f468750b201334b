use Rattle.std.proofs.Common.{ap, Err, Some}
use Rattle.journal_run.proofs.Taking.{further_fault, given_front, none_rose}
use Rattle.journal_run.proofs.lent.read_on.Goals as goal

pub returns-in-Err-clause-fault : goal.returns-in-Err-clause-fault
returns-in-Err-clause-fault c = λ memory.
    let found = c.in-Err.ensures.fault in
    further_fault c.args.history.now c.args.text.now found.0 c.in-Err.fault
    (given_front c.args.text.now found.0 found.1 _ _ (ap Some c.new-source.ensures) found.2) found.3 (λ read. none_rose (c.in-Err.ensures.failed (ap Err read))) memory
