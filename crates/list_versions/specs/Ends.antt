-- The ends of the lines of a list that add. A line's end is the version at which another line, of the same list and full
-- hash, takes the hash out or puts it in anew. So the full hashes at a version are those of the lines up to it whose end is
-- above it.
use Rattle.std.specs.Prelude.{◌≡◌, ◌⊎◌, ℕ, ◌≤◌, ◌==◌, ◌+◌, ◌&&◌, ◌||◌, not, Bool, true, nat_lt, if◌then◌else◌, List, [], ◌∷◌, ◌++◌, length, take, map, filter, fold, slice_set, All}
use Rattle.std.specs.List.{flat_map, list_any}
use Rattle.std.specs.Str.{bytes_eq}
use Rattle.sb_model.specs.declared.history.Added.{Added}
use Rattle.sb_model.specs.declared.history.Change.{Change}
use Rattle.sb_model.specs.declared.names.ListName.{ListName}
use Rattle.sb_model.specs.Names.{same_name}
use Rattle.list_versions.specs.declared.bucket.Standing.{Standing}
use Rattle.list_versions.specs.Folding.{after_changes}

-- the end of a line that has none yet: the greatest 32-bit number, which no version is
abbrev pub never : ℕ
never = 4294967295

-- a line that adds, with its end
abbrev pub Line : Type 0
Line = Added × ℕ

-- the hashes of the lines whose end is above a version
abbrev pub standing : ℕ → List Line → List Added
standing version lines = map (λ line. line.0) (filter (λ line. nat_lt version line.1) lines)

-- the hashes of the lines that have no end
abbrev pub unended : List Line → List Added
unended lines = map (λ line. line.0) (filter (λ line. line.1 == never) lines)

-- the hashes of the lines whose end is above a version, those that have none with them or without them
abbrev pub lasts : ℕ → Bool → Line → Bool
lasts version endless line = nat_lt version line.1 && (endless || not (line.1 == never))

abbrev pub lasting : ℕ → Bool → List Line → List Added
lasting version endless lines = map (λ line. line.0) (filter (lasts version endless) lines)

-- whether one of the lines whose end is above a version is of a full hash
abbrev pub has_standing : ℕ → List ℕ → List Line → Bool
has_standing version hash lines = list_any (bytes_eq hash) (map (λ added. added.hash) (lasting version true lines))

-- what the changes of a list add, one line after the other
abbrev pub adds_if : Bool → List Added → List Added
adds_if own adds = if own then adds else []

abbrev pub adds_of : ListName → List Change → List Added
adds_of list changes = flat_map (λ change. adds_if (same_name change.list list) change.adds) changes

-- These are the lines of a list, each with its end: for every version at once, those of the changes up to it whose end is
-- above it are the full hashes of the list.
pub record HasEnds (list : ListName) (changes : List Change) (lines : List Line) : Type 0 where
  pub adds : map (λ line. line.0) lines ≡ adds_of list changes
  pub versions : (version : ℕ) → version ≤ length changes
      → after_changes list (take version changes) ≡ standing version (take (length (adds_of list (take version changes))) lines)
  pub within : All (λ line. (line.1 ≤ length changes) ⊎ (line.1 ≡ never)) lines

-- ---- how they change

-- the line of a hash ends at a version, if it has no end yet
abbrev pub ended_line : List ℕ → ℕ → Line → Line
ended_line hash version line = if line.1 == never && bytes_eq line.0.hash hash then (line.0, version) else line

abbrev pub ended : ℕ → List Line → List ℕ → List Line
ended version lines hash = map (ended_line hash version) lines

-- a line more, which ends that of its hash
abbrev pub lengthened : ℕ → List Line → Added → List Line
lengthened version lines added = ended version lines added.hash ++ (added, never) ∷ []

-- the lines that a change of the list itself leaves
abbrev pub after_lines : ℕ → List Line → List (List ℕ) → List Added → List Line
after_lines version lines removes adds = fold (lengthened version) (fold (ended version) lines removes) adds

-- ---- where the lines that stand are kept

-- the lines that have no end, each with its place, counted from a number
abbrev pub placed : ℕ → List Line → List Standing
placed place [] = []
placed place (line ∷ lines) =
    if line.1 == never then record { added = line.0; place = place } ∷ placed (place + 1) lines else placed (place + 1) lines

-- the ends, where the lines at these places end at a version
abbrev pub ended_at : ℕ → List ℕ → List Standing → List ℕ
ended_at version ends lines = fold (λ ends line. slice_set ends line.place version) ends lines

-- whether a line is of a hash
abbrev pub is_of : List ℕ → Standing → Bool
is_of hash line = bytes_eq line.added.hash hash

-- ---- what a refused growth leaves

-- the ends of the first lines, where none is above a version
abbrev pub restored_end : ℕ → ℕ → ℕ
restored_end version end = if nat_lt version end then never else end

-- there are never more lines than this
abbrev pub most_lines : ℕ
most_lines = 18446744073709551615

abbrev pub restored : ℕ → ℕ → List ℕ → List ℕ
restored version count ends = map (restored_end version) (take count ends)
