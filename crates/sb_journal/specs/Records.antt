-- Hash lines as the changes of a journal: cut into records, and what they leave of a history.
use Rattle.std.specs.Prelude.{ℕ, ◌+◌, ◌*◌, ◌/◌, if◌then◌else◌, List, [], ◌∷◌, ◌++◌, length, take, drop, map}
use Rattle.std.specs.List.{list_any, range_with_len}
use Rattle.std.specs.Str.{bytes_eq}
use Rattle.sb_model.specs.declared.history.Added.{Added}
use Rattle.sb_model.specs.declared.history.Change.{Change}
use Rattle.sb_model.specs.declared.names.ListName.{ListName}
use Rattle.sb_model.specs.Difference.{added_members}
use Rattle.sb_model.specs.History.{History, full_hashes_at, version_count}
use Rattle.sb_model.specs.Prefixes.{set_of}
use Rattle.sb_journal.specs.declared.hash_line.HashLine.{HashLine}
use Rattle.sb_journal.specs.declared.hash_line.HashLine.TheVariants.{Add, Remove}

-- ---- records

-- what hash lines put in and take out, in order
abbrev pub adds_in : List HashLine → List Added
adds_in [] = []
adds_in (Add added ∷ lines) = added ∷ adds_in lines
adds_in (Remove hash ∷ lines) = adds_in lines

abbrev pub removes_in : List HashLine → List (List ℕ)
removes_in [] = []
removes_in (Add added ∷ lines) = removes_in lines
removes_in (Remove hash ∷ lines) = hash ∷ removes_in lines

abbrev pub hashes_put_in : List HashLine → List (List ℕ)
hashes_put_in lines = map (λ added. added.hash) (adds_in lines)

-- the change of a list that has these hash lines
abbrev pub change_with : ListName → List HashLine → Change
change_with list lines = record { list = list; adds = adds_in lines; removes = removes_in lines }

-- A record has 1,024 hash lines, and the last has what is left.
abbrev pub record_size : ℕ
record_size = 1024

abbrev pub record_count : ℕ → ℕ
record_count lines = (lines + 1023) / record_size

-- the hash lines of the record at a place, counted from 0
abbrev pub lines_at : List HashLine → ℕ → List HashLine
lines_at lines place = take record_size (drop (place * record_size) lines)

-- the changes of a list that have these hash lines, in order
unfoldable pub records_of : ListName → List HashLine → List Change
records_of list lines = map (λ place. change_with list (lines_at lines place)) (range_with_len 0 (record_count (length lines)))

-- a history and further changes
abbrev pub history_with_changes : History → List Change → History
history_with_changes history changes = record history { changes = history.changes ++ changes }

-- ---- what leads to the hashes of an input

-- the newest full hashes of a list, rising
abbrev pub newest_hashes : History → ListName → List (List ℕ)
newest_hashes history list = set_of (full_hashes_at history list (version_count history))

abbrev pub add_of : ℕ → List ℕ → HashLine
add_of size hash = Add (record { hash = hash; size = size })

-- From hashes that are held to those that are wanted: each held one that is not wanted goes, rising, and then each
-- wanted one that is not held comes, rising. What is both held and wanted has no line, so it keeps its size.
unfoldable pub leading_lines : ℕ → List (List ℕ) → List (List ℕ) → List HashLine
leading_lines size held wanted = map Remove (added_members wanted held) ++ map (add_of size) (added_members held wanted)

-- ---- each hash once

abbrev pub hash_in : HashLine → List ℕ
hash_in (Add added) = added.hash
hash_in (Remove hash) = hash

-- the last of several lines of one hash, at its place
unfoldable pub last_lines : List HashLine → List HashLine
last_lines [] = []
last_lines (line ∷ lines) =
    if list_any (λ later. bytes_eq (hash_in later) (hash_in line)) lines then last_lines lines else line ∷ last_lines lines
