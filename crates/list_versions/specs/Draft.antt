-- A history that is being read.
use Rattle.std.specs.Prelude.{◌≡◌, ℕ, ◌+◌, ◌^◌, ◌<◌, ◌≤◌, true, min, if◌then◌else◌, List, [], ◌++◌, length, map, take, All, None, Result, Ok, Err, slice_index_or}
use Rattle.sb_model.specs.declared.history.Added.{Added}
use Rattle.sb_model.specs.declared.names.ListName.{ListName}
use Rattle.sb_model.specs.History.{History, declares, sizes_at, IsWellFormed}
use Rattle.list_versions.specs.declared.fault.JournalFault.{JournalFault}
use Rattle.list_versions.specs.declared.draft.Begin.{Begin}
use Rattle.list_versions.specs.declared.draft.Draft.{Draft}
use Rattle.list_versions.specs.declared.draft.Listed.{Listed}
use Rattle.list_versions.specs.declared.live.Live.{Live}
use Rattle.list_versions.specs.Journal.{Kept, Begun, after_bytes, settled, ◌>>=◌, after_change_line, declared_size_of}
use Rattle.list_versions.specs.Limits.{most_declared_lists, most_changes, most_hash_lines, hash_lines, WithinLimits}
use Rattle.list_versions.specs.Ends.{Line, HasEnds, after_lines, adds_of, restored, most_lines}
use Rattle.list_versions.specs.Live.{Holds, HasPlaced, IsPlaced}
use Rattle.sb_model.specs.declared.history.Change.{Change}
use Rattle.sb_model.specs.Names.{same_name}

-- the declared lists, and the history
abbrev pub declared_of : List Listed → List (ListName × ℕ)
declared_of lists = map (λ list. (list.name, list.size)) lists

abbrev pub history_of : Draft → History
history_of draft = record { epoch = draft.epoch; declared = declared_of draft.lists.items; changes = draft.changes.items }

abbrev pub kept_of_draft : Draft → List ℕ → Kept
kept_of_draft draft rest = record { sized = draft.sized; versions = history_of draft; rest = rest }

-- what a history that is read keeps to
pub record IsDraft (draft : Draft) : Type 0 where
  pub hashes : draft.hashes ≡ hash_lines draft.changes.items
  pub few_lists : length draft.lists.items ≤ most_declared_lists
  pub few_changes : length draft.changes.items ≤ most_changes
  pub few_hashes : draft.hashes ≤ most_hash_lines
  pub live : All (λ list. Holds list.live (sizes_at (history_of draft) list.name (length draft.changes.items))) draft.lists.items
  pub declared : All (λ change. declares (history_of draft) change.list ≡ true) draft.changes.items
  pub within : WithinLimits (history_of draft)
  pub well_formed : IsWellFormed (history_of draft)
  pub placed : All (λ list. HasPlaced list.name draft.changes.items list.live) draft.lists.items

-- a change of which these hashes have come
abbrev pub begun_of : Begin → List Added → List (List ℕ) → Begun
begun_of begin adds removes = record { list = begin.list; declared_size = begin.size; to_add = begin.to_add; to_remove = begin.to_remove; adds = adds; removes = removes }

-- what bytes become before a record, and within a change. Some bytes of the record were seen before.
abbrev pub before_record : Draft → List ℕ → List ℕ → Result Kept JournalFault
before_record draft seen bytes = after_bytes (record { kept = kept_of_draft draft seen; begun = None }) bytes

abbrev pub within_change : Draft → Begin → List Added → List (List ℕ) → List ℕ → List ℕ → Result Kept JournalFault
within_change draft begin adds removes seen bytes = settled (kept_of_draft draft seen) (begun_of begin adds removes) >>= λ reading. after_bytes reading bytes

-- Some bytes are taken, and what is known goes from one to the other.
pub record Moves (before after : List ℕ → List ℕ → Result Kept JournalFault) (bytes rest : List ℕ) (most : ℕ) : Type 0 where
  pub taken : List ℕ
  pub whole : bytes ≡ taken ++ rest
  pub few : length taken ≤ most
  pub same : (seen more : List ℕ) → before seen (bytes ++ more) ≡ after (seen ++ taken) (rest ++ more)

-- the record has not ended
abbrev pub Waits : Draft → (List ℕ → List ℕ → Result Kept JournalFault) → List ℕ → Type 0
Waits draft before bytes = (seen : List ℕ) → before seen bytes ≡ Ok (kept_of_draft draft (seen ++ bytes))

-- a line is bad
abbrev pub Fails : (List ℕ → List ℕ → Result Kept JournalFault) → List ℕ → JournalFault → Type 0
Fails before bytes fault = (seen more : List ℕ) → before seen (bytes ++ more) ≡ Err fault

-- the lines of a list after a change, which is of the list or of another
abbrev pub lines_after : ListName → ℕ → List Line → Change → List Line
lines_after name version lines change =
    if same_name change.list name then after_lines version lines change.removes change.adds else lines

-- a change is applied to the lines of a list
abbrev pub AppliesLines : ℕ → Change → Listed → Listed → Type 0
AppliesLines version change before after = (lines : List Line) → length lines + length change.adds < 2 ^ 32 → IsPlaced before.live lines
    → IsPlaced after.live (lines_after before.name version lines change)

-- the lines of a list, once no end is above the last change
pub record HasCut (name : ListName) (changes : List Change) (live : Live) : Type 0 where
  pub lines : List Line
  pub are : HasEnds name changes lines
  pub ends : restored (length changes) (length lines) live.ends.items ≡ map (λ line. line.1) lines

-- the lists have the ends that they had when there were these changes alone
pub record AreRestored (changes : List Change) (before after : List Listed) : Type 0 where
  pub declared : declared_of after ≡ declared_of before
  pub ends : (k : ℕ) (d : Listed) → k < length before
      → (slice_index_or after k d).live.ends.items
      ≡ restored (length changes) (min (length (adds_of (slice_index_or before k d).name changes)) most_lines) (slice_index_or before k d).live.ends.items

-- what stays also where a record is refused: the lists and the changes that were there are the first ones, and the ends of
-- all lists can be set back to what the changes tell
pub record KeepsFront (before after : Draft) : Type 0 where
  pub sized : after.sized ≡ before.sized
  pub epoch : after.epoch ≡ before.epoch
  pub changes : take (length before.changes.items) after.changes.items ≡ before.changes.items
  pub declared : take (length before.lists.items) (declared_of after.lists.items) ≡ declared_of before.lists.items
  pub cut : All (λ list. HasCut list.name after.changes.items list.live) after.lists.items
  pub few_changes : length after.changes.items ≤ most_changes
  pub few_lines : hash_lines after.changes.items ≤ most_hash_lines

-- what bytes become after the line that begins a change, and before the next record
abbrev pub after_begin : Draft → ListName → ℕ → ℕ → List ℕ → List ℕ → Result Kept JournalFault
after_begin draft list to_add to_remove seen bytes =
    after_change_line (kept_of_draft draft seen) list to_add to_remove (declared_size_of (history_of draft) list) >>= λ reading. after_bytes reading bytes

abbrev pub before_next : Draft → List ℕ → List ℕ → Result Kept JournalFault
before_next draft seen bytes = before_record draft [] bytes
