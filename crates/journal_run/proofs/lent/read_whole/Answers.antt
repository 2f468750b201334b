use Rattle.std.proofs.Common.{ap, Err, Some}
use Rattle.journal_run.proofs.Taking.{given_front, none_rose}
use Rattle.journal_run.proofs.Wholes.{whole_fault}
use Rattle.journal_run.proofs.lent.read_whole.Goals as goal

pub returns-in-Err-clause-fault : goal.returns-in-Err-clause-fault
returns-in-Err-clause-fault c = λ memory.
    let found = c.in-Err.ensures.outcome in
    whole_fault c.args.text.now found.0 found.1 _ _ c.in-Err.fault (ap Some c.new-source.ensures) found.2
    (given_front c.args.text.now found.0 found.1 _ _ (ap Some c.new-source.ensures) found.2) found.3 (λ read. none_rose (c.in-Err.ensures.failed (ap Err read))) memory
