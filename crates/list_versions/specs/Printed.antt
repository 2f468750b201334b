-- The causes of journals that are not read, as they are printed.
use Rattle.std.specs.Prelude.{ℕ, List, ◌++◌, codes, decimal}
use Rattle.list_versions.specs.declared.fault.JournalFault.{JournalFault}
use Rattle.list_versions.specs.declared.fault.JournalFault.TheVariants.{ReadFault, Header, Line, UnknownList, ListTwice, TooMany, TooLarge, OutOfMemory}

-- a word, and the number of the first bad line
abbrev pub journal_cause_text : JournalFault → List ℕ
journal_cause_text ReadFault = codes "read-fault"
journal_cause_text Header = codes "header"
journal_cause_text (Line n) = codes "line " ++ decimal n
journal_cause_text (UnknownList n) = codes "unknown-list " ++ decimal n
journal_cause_text (ListTwice n) = codes "list-twice " ++ decimal n
journal_cause_text (TooMany n) = codes "too-many " ++ decimal n
journal_cause_text (TooLarge n) = codes "too-large " ++ decimal n
journal_cause_text OutOfMemory = codes "out-of-memory"
