-- A history of changes of threat lists, the prefixes of each of its versions, and the naming of versions.
use Rattle.std.specs.Prelude.{◌≡◌, ℕ, ◌≤◌, Bool, not, if◌then◌else◌, List, [], ◌∷◌, ◌++◌, length, take, map, filter, fold, All}
use Rattle.std.specs.List.{list_any}
use Rattle.std.specs.Str.{bytes_eq}
use Rattle.sb_model.specs.declared.history.Added.{Added}
use Rattle.sb_model.specs.declared.history.Change.{Change}
use Rattle.sb_model.specs.declared.names.ListName.{ListName}
use Rattle.sb_model.specs.Names.{same_name}
use Rattle.sb_model.specs.Prefixes.{set_of}

-- what a server keeps: an epoch, the lists that it declares each with its declared size, and the changes of all lists, the oldest first
pub record History : Type 0 where
  pub epoch : ℕ
  pub declared : List (ListName × ℕ)
  pub changes : List Change

-- a size that a prefix may have
pub record IsPrefixSize (size : ℕ) : Type 0 where
  pub low : 4 ≤ size
  pub high : size ≤ 32

-- hashes have 32 bytes, and sizes are from 4 to 32
pub record IsWellFormed (history : History) : Type 0 where
  pub declared : All (λ list. IsPrefixSize list.1) history.declared
  pub adds : All (λ change. All (λ added. (length added.hash ≡ 32) × IsPrefixSize added.size) change.adds) history.changes
  pub removes : All (λ change. All (λ hash. length hash ≡ 32) change.removes) history.changes

-- A version is a number of changes, counted over all lists.
abbrev pub version_count : History → ℕ
version_count history = length history.changes

-- the history up to a version, with all its declarations
abbrev pub up_to_version : ℕ → History → History
up_to_version version history = record history { changes = take version history.changes }

-- whether a history declares a list
abbrev pub declares : History → ListName → Bool
declares history list = list_any (λ declared. same_name declared.0 list) history.declared

-- the entries without those of a hash
abbrev pub without_hash : List Added → List ℕ → List Added
without_hash entries hash = filter (λ entry. not (bytes_eq entry.hash hash)) entries

-- An add puts its hash with its size, in place of a size that the hash had.
abbrev pub with_added : List Added → Added → List Added
with_added entries added = without_hash entries added.hash ++ added ∷ []

-- A change of the list takes out its removes, and then puts each of its adds in order. A change of another list does nothing.
abbrev pub after_change : ListName → List Added → Change → List Added
after_change list entries change =
    if same_name change.list list
    then fold with_added (fold without_hash entries change.removes) change.adds
    else entries

-- the full hashes of a list at a version, each once and with its size
abbrev pub sizes_at : History → ListName → ℕ → List Added
sizes_at history list version = fold (after_change list) [] (take version history.changes)

-- the full hashes alone
abbrev pub full_hashes_at : History → ListName → ℕ → List (List ℕ)
full_hashes_at history list version = map (λ entry. entry.hash) (sizes_at history list version)

-- the prefix that is published of a full hash
abbrev pub prefix_of : Added → List ℕ
prefix_of entry = take entry.size entry.hash

-- the prefixes of a list at a version, as a rising list
abbrev pub prefixes_at : History → ListName → ℕ → List (List ℕ)
prefixes_at history list version = set_of (map prefix_of (sizes_at history list version))
