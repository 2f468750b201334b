use Rattle.journal_run.specs.declared.command.Command.TheVariants.{New}
use Rattle.journal_run.specs.Fresh.{fresh_history}
use Rattle.journal_run.proofs.Given.{words_give}
use Rattle.journal_run.proofs.NewJournals.{fresh_journal}
use Rattle.journal_run.proofs.laws.new_journals_are_told.Goals as goal

pub returns : goal.returns
returns c = λ words line epoch given small.
    c.journals_read_as_written.ensures.sized (fresh_history epoch line) (fresh_journal epoch line small (words_give words (New line) given))
