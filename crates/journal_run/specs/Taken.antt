-- Texts that a journal is read on by, or begins with, as what they say.
use Rattle.std.specs.Prelude.{◌≡◌, ℕ, true, List, Result, Ok, Err}
use Rattle.sb_model.specs.declared.history.Change.{Change}
use Rattle.sb_model.specs.History.{History}
use Rattle.list_versions.specs.Journal.{Kept, kept_of, read_on}
use Rattle.list_versions.specs.Written.{journal_text, wholly, with_changes}
use Rattle.list_versions.specs.declared.fault.JournalFault.{JournalFault}
use Rattle.sb_journal.specs.Texts.{records_text}
use Rattle.journal_run.specs.Printed.{done_with, refusal_of}
use Rattle.journal_run.specs.Written.{Reply}

-- a text, if a journal is read by it, and else why not
abbrev pub taken_reply : List ℕ → Result Kept JournalFault → Reply
taken_reply text (Ok after) = done_with text
taken_reply text (Err fault) = refusal_of fault

-- records behind a journal
abbrev pub records_reply : List ℕ → Kept → Reply
records_reply text kept = taken_reply text (read_on kept text)

-- a whole journal
abbrev pub history_reply : History → Reply
history_reply history = taken_reply (journal_text true history) (kept_of (journal_text true history))

-- The journal takes the text of these changes, and what it says then is its history with exactly these changes more.
abbrev pub AreTaken : List Change → Kept → Type 0
AreTaken changes kept = read_on kept (records_text kept.sized changes) ≡ Ok (with_changes changes kept)

-- The text of this history is read as this history, with nothing behind it.
abbrev pub IsHistoryTold : History → Type 0
IsHistoryTold history = kept_of (journal_text true history) ≡ Ok (wholly true history)
