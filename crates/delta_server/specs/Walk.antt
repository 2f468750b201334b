-- The versions that a walk over changes comes by, and which of them a client may be brought to.
use Rattle.std.specs.Prelude.{ℕ, ◌+◌, ◌↔◌, if◌then◌else◌, Contains, Bool, ◌&&◌, List, [], length, take, map, fold, All, Option, Some, None}
use Rattle.sb_model.specs.declared.history.Added.{Added}
use Rattle.sb_model.specs.declared.history.Change.{Change}
use Rattle.sb_model.specs.declared.names.ListName.{ListName}
use Rattle.sb_model.specs.Names.{same_name}
use Rattle.sb_model.specs.Difference.{difference_count}
use Rattle.sb_model.specs.History.{IsPrefixSize, after_change, prefix_of}
use Rattle.sb_model.specs.Prefixes.{set_of}
use Rattle.sb_model.specs.Target.{is_within, greatest_up_to}

-- the prefixes that are published of these full hashes
abbrev pub published : List Added → List (List ℕ)
published entries = set_of (map prefix_of entries)

-- the full hashes of a list after so many changes
abbrev pub entries_after : ListName → List Added → List Change → ℕ → List Added
entries_after list entries changes count = fold (after_change list) entries (take count changes)

-- whether one who holds a set may be brought to another, within the update limit and the database limit
abbrev pub may_take : List (List ℕ) → ℕ → ℕ → List (List ℕ) → Bool
may_take old max_update max_database newer = is_within max_update (difference_count old newer) && is_within max_database (length newer)

-- how many of the changes are taken: as many as lead to a set that the client may be brought to, and 0 where none do
abbrev pub changes_taken : ListName → List (List ℕ) → List Added → List Change → ℕ → ℕ → ℕ
changes_taken list old entries changes max_update max_database =
    greatest_up_to (λ count. may_take old max_update max_database (published (entries_after list entries changes count))) (length changes)

-- the prefixes of the full hashes that a change adds have sizes that prefixes may have
abbrev pub HasSizes : Change → Type 0
HasSizes change = All (λ added. IsPrefixSize added.size) change.adds

-- the set of a held version, and none where none is held
abbrev pub held_set : ListName → Option ℕ → List Change → List (List ℕ)
held_set list None changes = []
held_set list (Some version) changes = published (entries_after list [] changes version)

-- two lists have the same members
abbrev pub HaveSame : List Added → List Added → Type 0
HaveSame first second = (entry : Added) → Contains first entry ↔ Contains second entry

-- how many hash lines a change of a list has
abbrev pub hash_lines_in : ListName → Change → ℕ
hash_lines_in list change = if same_name change.list list then length change.adds + length change.removes else 0
