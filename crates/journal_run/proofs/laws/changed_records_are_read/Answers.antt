use Rattle.journal_run.specs.declared.command.Command.TheVariants.{Change}
use Rattle.journal_run.proofs.ChangedRecords.{RecordLaws, changed_read}
use Rattle.journal_run.proofs.Given.{words_give}
use Rattle.journal_run.proofs.laws.changed_records_are_read.Goals as goal

pub returns-clause-changes : goal.returns-clause-changes
returns-clause-changes c =
    let laws : RecordLaws = record {
      follow = c.hash_lines_may_follow.ensures.follow;
      sizes = c.hash_lines_may_follow.ensures.sizes;
      sized = c.records_are_read_as_their_changes.ensures.sized;
      plain = c.records_are_read_as_their_changes.ensures.plain;
    } in
    λ kept after line input declared size formed rest given form read. changed_read laws kept after line.list line.size input declared size formed rest given form read

pub returns-clause-size : goal.returns-clause-size
returns-clause-size c = λ words line given. words_give words (Change line) given
