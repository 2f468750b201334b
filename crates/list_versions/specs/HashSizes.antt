-- Full hashes with their sizes as a map, which the hash lines of a journal change.
use Rattle.std.specs.Prelude.{◌≡◌, ℕ, Bool, cond, List, map, Option, Some, None, Contains, ◌↔◌}
use Rattle.std.specs.BTreeMap.{is_at}
use Rattle.std.specs.Map.{keys_of, lookup}
use Rattle.std.specs.Option.{unwrap_or}
use Rattle.std.specs.Str.{bytes_eq}
use Rattle.sb_model.specs.declared.history.Added.{Added}
use Rattle.sb_model.specs.Prefixes.{bytes_cmp, set_of}
use Rattle.list_versions.specs.Live.{shown}

-- the full hashes of a map, each with its size
abbrev pub HashSizes : Type 0
HashSizes = List (List ℕ × ℕ)

-- the entries of a map in the order of their hashes, where they stand in any order
abbrev pub rising_sizes : HashSizes → HashSizes
rising_sizes entries = map (λ hash. (hash, unwrap_or (lookup (bytes_eq hash) entries) 0)) (set_of (keys_of entries))

-- the size of a full hash, where the map has the hash
abbrev pub size_of_hash : HashSizes → List ℕ → Option ℕ
size_of_hash sizes hash = lookup (is_at (bytes_cmp hash)) sizes

-- The hash gets the size in place of the one that it had, or is taken out. Each other hash keeps its own.
abbrev pub Sets : HashSizes → HashSizes → List ℕ → Option ℕ → Type 0
Sets before after hash size = (other : List ℕ) → size_of_hash after other ≡ cond (bytes_eq hash other) size (size_of_hash before other)

-- the size that a line gives its hash: none where the line removes
abbrev pub line_size : Bool → ℕ → Option ℕ
line_size add size = cond add (Some size) None

-- the map has these entries and no others
pub record IsMapOf (sizes : HashSizes) (entries : List Added) : Type 0 where
  pub same : (hash : List ℕ) (size : ℕ) → Contains entries (record { hash = hash; size = size }) ↔ (size_of_hash sizes hash ≡ Some size)

-- the prefix that is made of a full hash and its size
abbrev pub shown_entry : List ℕ × ℕ → List ℕ
shown_entry entry = shown (record { hash = entry.0; size = entry.1 })

-- a full hash of a map with its size
abbrev pub entry_at : List ℕ × ℕ → Added
entry_at pair = record { hash = pair.0; size = pair.1 }
