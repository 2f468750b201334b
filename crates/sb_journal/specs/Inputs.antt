-- What reading an input of URLs does to a source.
use Rattle.std.specs.Prelude.{◌⊎◌, ℕ, ◌<◌, List, length, Option, Result, Ok, Err}
use Rattle.std.specs.Str.Lines.{lines}
use Rattle.sb_outside.specs.Reading.{ReadsToEnd, GivesAtMost, GivesMoreThan}
use Rattle.sb_outside.specs.declared.reading.InputFault.{InputFault}
use Rattle.sb_outside.specs.declared.reading.InputFault.TheVariants as input
use Rattle.sb_journal.specs.Feed.{IsFeedWithinLimits, most_input, most_feed_lines}

-- what an input gave: a whole text within the limits, or some bytes of one, or too much
abbrev pub InputOutcome : Result (List ℕ) InputFault → (left left' : Option (List (List ℕ))) → Type 0
InputOutcome (Ok text) left left' = ReadsToEnd text left left' × IsFeedWithinLimits text
InputOutcome (Err input.Failed) left left' = GivesAtMost most_input left left'
InputOutcome (Err input.PastLimit) left left' =
    GivesMoreThan most_input left left' ⊎ ((text : List ℕ) × ReadsToEnd text left left' × (most_feed_lines < length (lines text)))
InputOutcome (Err input.OutOfMemory) left left' = ⊥
