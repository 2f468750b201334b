-- What an input of URLs changes of a list.
use Rattle.std.specs.Prelude.{ℕ, List}
use Rattle.std.specs.List.{filter_map}
use Rattle.std.specs.Str.Lines.{lines}
use Rattle.sb_model.specs.declared.history.Change.{Change}
use Rattle.sb_model.specs.declared.names.ListName.{ListName}
use Rattle.sb_model.specs.History.{History}
use Rattle.sb_journal.specs.declared.hash_line.HashLine.{HashLine}
use Rattle.sb_journal.specs.Feed.{edit_said_by, told}
use Rattle.sb_journal.specs.Records.{leading_lines, newest_hashes, records_of}

-- The changes after which a list has exactly the hashes that are wanted. What they put in has this size.
abbrev pub sync_changes : History → ListName → ℕ → List (List ℕ) → List Change
sync_changes history list size wanted = records_of list (leading_lines size (newest_hashes history list) wanted)

-- the hash lines that the lines of an input say, in the order of the input
abbrev pub edits_in : ℕ → List ℕ → List HashLine
edits_in size input = filter_map (λ line. told (edit_said_by size line)) (lines input)
