-- What a history keeps to: how much of everything a journal may have.
use Rattle.std.specs.Prelude.{ℕ, ◌+◌, ◌≤◌, Bool, ◌||◌, nat_lt, if◌then◌else◌, List, length, take, map, filter, Option, Some, None, sum_by}
use Rattle.std.specs.List.{list_any}
use Rattle.std.specs.Str.{bytes_eq}
use Rattle.sb_model.specs.declared.history.Added.{Added}
use Rattle.sb_model.specs.declared.history.Change.{Change}
use Rattle.sb_model.specs.declared.names.ListName.{ListName}
use Rattle.sb_model.specs.History.{History, prefix_of, sizes_at, version_count}
use Rattle.sb_model.specs.Prefixes.{set_of, concatenation}
use Rattle.list_versions.specs.declared.fault.JournalFault.{JournalFault}
use Rattle.list_versions.specs.declared.fault.JournalFault.TheVariants as fault

-- how many lists are declared, how many changes there are, and how many hash lines these have
abbrev pub most_declared_lists : ℕ
most_declared_lists = 8

abbrev pub most_changes : ℕ
most_changes = 65536

abbrev pub most_hash_lines : ℕ
most_hash_lines = 2097152

-- how many full hashes a list has, how many of them share their first four bytes, and how many bytes its prefixes have
abbrev pub most_hashes : ℕ
most_hashes = 1048576

abbrev pub most_alike : ℕ
most_alike = 16

abbrev pub most_prefix_bytes : ℕ
most_prefix_bytes = 8388608

-- the hash lines of a history
abbrev pub hash_lines : List Change → ℕ
hash_lines changes = sum_by (λ change. length change.adds + length change.removes) changes

-- whether a full hash begins with these bytes, of which there are four
abbrev pub has_head : List ℕ → Added → Bool
has_head head entry = bytes_eq (take 4 entry.hash) head

-- whether more than 16 full hashes share their first four bytes
abbrev pub is_crowded : List Added → Bool
is_crowded entries = list_any (λ entry. nat_lt most_alike (length (filter (has_head (take 4 entry.hash)) entries))) entries

-- how many bytes the prefixes of these full hashes have, each counted once
abbrev pub prefix_bytes : List Added → ℕ
prefix_bytes entries = length (concatenation (set_of (map prefix_of entries)))

-- the fault of line n where it ends a change that leaves these full hashes
abbrev pub limit_fault_at : ℕ → List Added → Option JournalFault
limit_fault_at n entries =
    if nat_lt most_hashes (length entries) || is_crowded entries then Some (fault.TooMany n)
    else if nat_lt most_prefix_bytes (prefix_bytes entries) then Some (fault.TooLarge n)
    else None

-- no 17 of these full hashes share their first four bytes
abbrev pub IsUncrowded : List Added → Type 0
IsUncrowded entries = (head : List ℕ) → length (filter (has_head head) entries) ≤ most_alike

-- what the full hashes of a list keep to
pub record KeepsToLimits (entries : List Added) : Type 0 where
  pub count : length entries ≤ most_hashes
  pub uncrowded : IsUncrowded entries
  pub bytes : prefix_bytes entries ≤ most_prefix_bytes

-- each version of each list keeps to it
abbrev pub WithinLimits : History → Type 0
WithinLimits history = (list : ListName) (version : ℕ) → version ≤ version_count history → KeepsToLimits (sizes_at history list version)
