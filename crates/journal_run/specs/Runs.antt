-- What a run does to its input, to its journal and to its output. A run that was refused memory is left out here.
use Rattle.std.specs.Prelude.{◌≡◌, ◌≢◌, ◌⊎◌, ℕ, Bool, List, Option, Result, Ok, Err}
use Rattle.sb_outside.specs.Outside.{Rose}
use Rattle.sb_outside.specs.declared.reading.InputFault.{InputFault}
use Rattle.sb_outside.specs.declared.reading.InputFault.TheVariants as input
use Rattle.list_versions.specs.Journal.{Kept}
use Rattle.list_versions.specs.Loaded.{Gives, JournalOutcome}
use Rattle.list_versions.specs.declared.fault.JournalFault.{JournalFault}
use Rattle.list_versions.specs.declared.fault.JournalFault.TheVariants as journal
use Rattle.sb_journal.specs.Inputs.{InputOutcome}
use Rattle.journal_run.specs.Written.{Reply, IsSilent, IsWritten}
use Rattle.journal_run.specs.Printed.{refusal_of}

-- each exit status that a run can have
abbrev pub IsJournalRunStatus : ℕ → Type 0
IsJournalRunStatus status =
    (status ≡ 0) ⊎ (status ≡ 1) ⊎ (status ≡ 2) ⊎ (status ≡ 3) ⊎ (status ≡ 6) ⊎ (status ≡ 7) ⊎ (status ≡ 8) ⊎ (status ≡ 20)
    ⊎ (status ≡ 21)

-- ---- a journal

-- what a journal that is no history led to: 2 if it failed, and else its cause was told
abbrev pub AfterFault : JournalFault → ℕ → (held held' : Option (List ℕ)) → Type 0
AfterFault journal.ReadFault status held held' = IsSilent 2 status held held'
AfterFault journal.OutOfMemory status held held' = ⊥
AfterFault fault status held held' = IsWritten (refusal_of fault) status held held'

-- One of some replies was written.
pub record WritesOne (Replies : Reply → Type 0) (status : ℕ) (held held' : Option (List ℕ)) : Type 0 where
  pub reply : Reply
  pub is : Replies reply
  pub written : IsWritten reply status held held'

-- what a journal led to: a reply to it if it tells a history
abbrev pub AfterJournal : (Kept → Reply → Type 0) → Result Kept JournalFault → ℕ → (held held' : Option (List ℕ)) → Type 0
AfterJournal Replies (Ok kept) status held held' = WritesOne (Replies kept) status held held'
AfterJournal Replies (Err fault) status held held' = AfterFault fault status held held'

-- The journal gave these bytes, with its end or without, and what they come to decided what was written.
pub record IsJournalRun (Replies : Kept → Reply → Type 0) (status : ℕ) (left left' : Option (List (List ℕ)))
    (held held' : Option (List ℕ)) : Type 0 where
  pub bytes : List ℕ
  pub ended : Bool
  pub gives : Gives bytes ended left left'
  pub loaded : Result Kept JournalFault
  pub outcome : JournalOutcome bytes ended loaded
  pub after : AfterJournal Replies loaded status held held'

-- ---- an input of URLs

-- what an input led to: a reply to it, 2 if it failed, 6 if it is too long
abbrev pub AfterInput : (List ℕ → Reply → Type 0) → Result (List ℕ) InputFault → ℕ → (held held' : Option (List ℕ)) → Type 0
AfterInput Replies (Ok text) status held held' = WritesOne (Replies text) status held held'
AfterInput Replies (Err input.Failed) status held held' = IsSilent 2 status held held'
AfterInput Replies (Err input.PastLimit) status held held' = IsSilent 6 status held held'
AfterInput Replies (Err input.OutOfMemory) status held held' = ⊥

-- The input was read, and decided what was written.
pub record IsInputRun (Replies : List ℕ → Reply → Type 0) (status : ℕ) (left left' : Option (List (List ℕ)))
    (held held' : Option (List ℕ)) : Type 0 where
  pub given : Result (List ℕ) InputFault
  pub outcome : InputOutcome given left left'
  pub after : AfterInput Replies given status held held'

-- ---- an input, and then a journal

-- Nothing was read of the journal, and nothing was written.
pub record IsUnreadRun (wanted status : ℕ) (left left' : Option (List (List ℕ))) (held held' : Option (List ℕ)) : Type 0 where
  pub unread : left' ≡ left
  pub silent : IsSilent wanted status held held'

-- what an input led to: the journal was read, and there was a reply to both, or the input failed or is too long
abbrev pub AfterFeed : (List ℕ → Kept → Reply → Type 0) → Result (List ℕ) InputFault → ℕ → (left left' : Option (List (List ℕ)))
    → (held held' : Option (List ℕ)) → Type 0
AfterFeed Replies (Ok text) status left left' held held' = IsJournalRun (Replies text) status left left' held held'
AfterFeed Replies (Err input.Failed) status left left' held held' = IsUnreadRun 2 status left left' held held'
AfterFeed Replies (Err input.PastLimit) status left left' held held' = IsUnreadRun 6 status left left' held held'
AfterFeed Replies (Err input.OutOfMemory) status left left' held held' = ⊥

-- The input was read, and then the journal if the input was read whole.
pub record IsFeedRun (Replies : List ℕ → Kept → Reply → Type 0) (status : ℕ) (journal journal' left left' : Option (List (List ℕ)))
    (held held' : Option (List ℕ)) : Type 0 where
  pub given : Result (List ℕ) InputFault
  pub outcome : InputOutcome given left left'
  pub after : AfterFeed Replies given status journal journal' held held'

-- ---- the counts of faults

-- With status 2 the count of the journal or that of the input rose, and with 3 that of the output. With others no count did,
-- but for that of the output with 1, which the usage text may raise.
pub record AreCounted (status : ℕ) (journal journal' input input' out out' : ℕ) : Type 0 where
  pub read : status ≡ 2 → (Rose journal journal' × (input' ≡ input)) ⊎ (Rose input input' × (journal' ≡ journal))
  pub read_kept : status ≢ 2 → (journal' ≡ journal) × (input' ≡ input)
  pub written : status ≡ 3 → Rose out out'
  pub written_kept : status ≢ 3 → status ≢ 1 → out' ≡ out
