use Rattle.list_versions.proofs.Written.{plain_journal_back, sized_journal_back}
use Rattle.list_versions.proofs.laws.journals_read_as_written.Goals as goal

pub returns-clause-sized : goal.returns-clause-sized
returns-clause-sized c = sized_journal_back

pub returns-clause-plain : goal.returns-clause-plain
returns-clause-plain c = plain_journal_back
