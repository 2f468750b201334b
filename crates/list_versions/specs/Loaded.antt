-- A history that was read from a source, and how it is kept.
use Rattle.std.specs.Prelude.{◌≡◌, ℕ, ◌≤◌, ◌⊎◌, ⊤, Bool, true, List, [], ◌++◌, length, map, All, Option, Result, Ok, Err, IsTrue, MatchBool}
use Rattle.sha2.specs.Sha256.{sha256}
use Rattle.sb_outside.specs.Outside.{GivesFront}
use Rattle.sb_outside.specs.Reading.{ReadsToEnd}
use Rattle.sb_model.specs.History.{History, declares, prefixes_at, version_count, IsWellFormed}
use Rattle.sb_model.specs.Prefixes.{concatenation}
use Rattle.list_versions.specs.declared.draft.Draft.{Draft}
use Rattle.list_versions.specs.declared.fault.JournalFault.{JournalFault}
use Rattle.list_versions.specs.declared.fault.JournalFault.TheVariants as fault
use Rattle.list_versions.specs.declared.newest.Newest.{Newest}
use Rattle.list_versions.specs.Live.{HasRead}
use Rattle.list_versions.specs.Draft.{history_of, kept_of_draft, before_record, IsDraft}
use Rattle.list_versions.specs.Journal.{Kept, kept_of, read_on}
use Rattle.list_versions.specs.Limits.{most_declared_lists, most_changes, most_hash_lines, hash_lines, WithinLimits}
use Rattle.list_versions.specs.Numbers.{AreNumbersOf}
use Rattle.list_versions.specs.Split.{IsFront}

-- ---- what bytes of a source come to

-- A source gave these bytes, and then answered its end or did not.
abbrev pub Gives : List ℕ → Bool → Option (List (List ℕ)) → Option (List (List ℕ)) → Type 0
Gives bytes ended before after = MatchBool ended (ReadsToEnd bytes before after) (GivesFront bytes before after)

-- nothing in the bytes is bad: they are the front of a first line, or a journal so far
abbrev pub IsFaultless : List ℕ → Type 0
IsFaultless bytes = IsFront bytes ⊎ ((kept : Kept) × (kept_of bytes ≡ Ok kept))

-- a bad line is there, whatever follows
abbrev pub IsBadJournal : List ℕ → JournalFault → Type 0
IsBadJournal bytes fault = (more : List ℕ) → kept_of (bytes ++ more) ≡ Err fault

-- What the bytes of a journal come to. The first line has to be whole where they end.
abbrev pub JournalOutcome : List ℕ → Bool → Result Kept JournalFault → Type 0
JournalOutcome bytes ended (Ok kept) = IsTrue ended × (kept_of bytes ≡ Ok kept)
JournalOutcome bytes ended (Err fault.ReadFault) = IsFaultless bytes
JournalOutcome bytes ended (Err fault.OutOfMemory) = ⊤
JournalOutcome bytes ended (Err fault.Header) = IsBadJournal bytes fault.Header ⊎ (IsTrue ended × IsFront bytes)
JournalOutcome bytes ended (Err (fault.Line n)) = IsBadJournal bytes (fault.Line n)
JournalOutcome bytes ended (Err (fault.UnknownList n)) = IsBadJournal bytes (fault.UnknownList n)
JournalOutcome bytes ended (Err (fault.ListTwice n)) = IsBadJournal bytes (fault.ListTwice n)
JournalOutcome bytes ended (Err (fault.TooMany n)) = IsBadJournal bytes (fault.TooMany n)
JournalOutcome bytes ended (Err (fault.TooLarge n)) = IsBadJournal bytes (fault.TooLarge n)

-- The same of further bytes.
abbrev pub IsBadRest : Kept → List ℕ → JournalFault → Type 0
IsBadRest kept bytes fault = (more : List ℕ) → read_on kept (bytes ++ more) ≡ Err fault

abbrev pub FurtherFault : Kept → List ℕ → JournalFault → Type 0
FurtherFault kept bytes fault.ReadFault = (next : Kept) × (read_on kept bytes ≡ Ok next)
FurtherFault kept bytes fault.OutOfMemory = ⊤
FurtherFault kept bytes fault.Header = ⊥
FurtherFault kept bytes (fault.Line n) = IsBadRest kept bytes (fault.Line n)
FurtherFault kept bytes (fault.UnknownList n) = IsBadRest kept bytes (fault.UnknownList n)
FurtherFault kept bytes (fault.ListTwice n) = IsBadRest kept bytes (fault.ListTwice n)
FurtherFault kept bytes (fault.TooMany n) = IsBadRest kept bytes (fault.TooMany n)
FurtherFault kept bytes (fault.TooLarge n) = IsBadRest kept bytes (fault.TooLarge n)

-- ---- what is kept

-- the changes and lists of a history with the ends of their lines, whatever the tables of the newest full hashes hold
pub record IsStem (draft : Draft) : Type 0 where
  pub hashes : draft.hashes ≡ hash_lines draft.changes.items
  pub few_lists : length draft.lists.items ≤ most_declared_lists
  pub few_changes : length draft.changes.items ≤ most_changes
  pub few_hashes : draft.hashes ≤ most_hash_lines
  pub declared : All (λ change. declares (history_of draft) change.list ≡ true) draft.changes.items
  pub within : WithinLimits (history_of draft)
  pub well_formed : IsWellFormed (history_of draft)
  pub read : All (λ list. HasRead list.name draft.changes.items list.live) draft.lists.items

-- the newest prefixes of a list stand ready, with their digest and their numbers
pub record IsNewest (versions : History) (newest : Newest) : Type 0 where
  pub set : newest.set ≡ prefixes_at versions newest.name (version_count versions)
  pub digest : newest.digest ≡ sha256 (concatenation newest.set)
  pub numbers : AreNumbersOf newest.set newest.numbers.items

-- The newest prefixes of each declared list stand ready, and so do its newest full hashes unless these are stale.
pub record IsLoadedDraft (draft : Draft) (newest : List Newest) (rest : List ℕ) (stale : Bool) : Type 0 where
  pub stem : IsStem draft
  pub fresh : stale ≡ true ⊎ IsDraft draft
  pub names : map (λ newest. newest.name) newest ≡ map (λ listed. listed.name) draft.lists.items
  pub each : All (IsNewest (history_of draft)) newest
  -- the rest is the front of a record
  pub waits : before_record draft [] rest ≡ Ok (kept_of_draft draft rest)
  pub short : length rest ≤ 132608
