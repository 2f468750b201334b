use Rattle.sb_journal.specs.Texts.{records_text}
use Rattle.journal_run.proofs.Waiting.{record_waits}
use Rattle.journal_run.proofs.unended.records_wait_for_their_turn.Goals as goal

pub returns : goal.returns
returns c = λ kept after sized change changes front some. record_waits kept after sized change (records_text sized changes) front some
