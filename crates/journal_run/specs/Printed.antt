-- What is printed of a journal that is refused, and of a list that it does not declare.
use Rattle.std.specs.Prelude.{ℕ, List, [], ◌∷◌, ◌++◌, codes}
use Rattle.list_versions.specs.Lines.{newline}
use Rattle.list_versions.specs.declared.fault.JournalFault.{JournalFault}
use Rattle.list_versions.specs.Printed.{journal_cause_text}
use Rattle.journal_run.specs.Written.{Reply}

abbrev pub journal_line : List ℕ → List ℕ
journal_line cause = codes "journal " ++ cause ++ newline ∷ []

abbrev pub journal_reply : List ℕ → Reply
journal_reply cause = record { text = journal_line cause; status = 7 }

-- why a journal is refused
abbrev pub refusal_of : JournalFault → Reply
refusal_of fault = journal_reply (journal_cause_text fault)

-- the journal does not declare the list
abbrev pub unknown_list : Reply
unknown_list = journal_reply (codes "unknown-list")

-- a text, and nothing hindered the run
abbrev pub done_with : List ℕ → Reply
done_with text = record { text = text; status = 0 }

-- a text that refuses
abbrev pub refused_with : List ℕ → Reply
refused_with text = record { text = text; status = 21 }
