-- What `change` prints: records that put in and take out what the lines of an input say.
use Rattle.std.specs.Prelude.{◌≡◌, ℕ, ◌&&◌, not, is_some, if◌then◌else◌, List, unwrap_or}
use Rattle.sb_model.specs.declared.history.Change.{Change}
use Rattle.sb_journal.specs.Changes.{edits_in}
use Rattle.sb_journal.specs.Records.{last_lines, records_of}
use Rattle.sb_journal.specs.Refusals.{has_refused, refusals, refused_edits_in}
use Rattle.sb_journal.specs.Texts.{records_text}
use Rattle.journal_run.specs.declared.command.ChangeLine.{ChangeLine}
use Rattle.journal_run.specs.Printed.{done_with, refused_with}
use Rattle.journal_run.specs.Written.{Reply}

-- The records of an input: of several lines of one hash the last counts, at its place. With a size each line that puts in
-- names it, and without one none does.
abbrev pub changed_records_text : ChangeLine → List ℕ → List ℕ
changed_records_text line input =
    records_text (is_some line.size) (records_of line.list (last_lines (edits_in (unwrap_or line.size 4) input)))

-- the records, or a line for each URL that is refused, unless these are skipped
abbrev pub change_reply : ChangeLine → List ℕ → Reply
change_reply line input =
    if has_refused (refused_edits_in input) && not line.skip
    then refused_with (refusals (refused_edits_in input))
    else done_with (changed_records_text line input)

-- what these records say behind a journal in which the list has this declared size: a line that puts in without a size has that
abbrev pub changed_with : ChangeLine → ℕ → List ℕ → List Change
changed_with line declared input = records_of line.list (last_lines (edits_in (unwrap_or line.size declared) input))

abbrev pub IsChangeReply : ChangeLine → List ℕ → Reply → Type 0
IsChangeReply line input reply = reply ≡ change_reply line input
