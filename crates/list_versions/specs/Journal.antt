-- The journal of a list server. Its first line names the form and the epoch. Then come records: a line that declares a
-- list, or a line that begins a change and the hash lines of the change. A journal that is still written ends in a record
-- that has not ended: these bytes are the rest.
use Rattle.std.specs.Prelude.{ℕ, ◌+◌, ◌==◌, Bool, ◌&&◌, nat_lt, nat_le, if◌then◌else◌, List, [], ◌∷◌, ◌++◌, length, Option, Some, None, Result, Ok, Err, find}
use Rattle.std.specs.List.{slice_split}
use Rattle.std.specs.Option.{option_map}
use Rattle.sb_model.specs.declared.history.Added.{Added}
use Rattle.sb_model.specs.declared.history.Change.{Change}
use Rattle.sb_model.specs.declared.names.ListName.{ListName}
use Rattle.sb_model.specs.Names.{same_name}
use Rattle.sb_model.specs.History.{History, declares, sizes_at, version_count}
use Rattle.list_versions.specs.Lines.{newline, is_newline, header_of, head_of, added_in_line, removed_of}
use Rattle.list_versions.specs.Limits.{most_declared_lists, most_changes, most_hash_lines, hash_lines, limit_fault_at}
use Rattle.list_versions.specs.declared.fault.JournalFault.{JournalFault}
use Rattle.list_versions.specs.declared.fault.JournalFault.TheVariants as fault
use Rattle.list_versions.specs.declared.heads.Head.{Head}
use Rattle.list_versions.specs.declared.heads.Head.TheVariants as head
use Rattle.list_versions.specs.declared.heads.Header.{Header}

-- What a journal says so far: whether lines that add may name a size, the history of the records that have ended, and
-- the bytes after these.
pub record Kept : Type 0 where
  pub sized : Bool
  pub versions : History
  pub rest : List ℕ

-- a change of which some hash lines have come
pub record Begun : Type 0 where
  pub list : ListName
  pub declared_size : ℕ
  -- how many hashes it is to add and to remove
  pub to_add : ℕ
  pub to_remove : ℕ
  pub adds : List Added
  pub removes : List (List ℕ)

-- what is known after a whole line
pub record LineReading : Type 0 where
  pub kept : Kept
  pub begun : Option Begun

infixl 10 ◌>>=◌
abbrev pub ◌>>=◌ : {A B : Type 0} → Result A JournalFault → (A → Result B JournalFault) → Result B JournalFault
(Ok a) >>= f = f a
(Err fault) >>= f = Err fault

-- ---- which line comes next

-- Each line is the first, declares a list, begins a change or is a hash line. So the history tells how many lines it took.
abbrev pub lines_taken : History → ℕ
lines_taken history = 1 + length history.declared + length history.changes + hash_lines history.changes

-- the hash lines of a change that has begun
abbrev pub lines_begun : Begun → ℕ
lines_begun begun = length begun.adds + length begun.removes

-- the number of the next line, where no change has begun and where one has
abbrev pub next_line : History → ℕ
next_line history = lines_taken history + 1

abbrev pub next_hash_line : History → Begun → ℕ
next_hash_line history begun = next_line history + lines_begun begun + 1

-- ---- lines

-- Declared lists stand in the order of the journal.
abbrev pub with_list : ListName → ℕ → List (ListName × ℕ) → List (ListName × ℕ)
with_list name size declared = declared ++ (name, size) ∷ []

abbrev pub at_record : Kept → LineReading
at_record kept = record { kept = record kept { rest = [] }; begun = None }

-- a line that declares a list
abbrev pub after_list : Kept → ListName → ℕ → Result LineReading JournalFault
after_list kept name size =
    if declares kept.versions name then Err (fault.ListTwice (next_line kept.versions))
    else if nat_le most_declared_lists (length kept.versions.declared) then Err (fault.TooMany (next_line kept.versions))
    else Ok (at_record (record kept { versions = record kept.versions { declared = with_list name size kept.versions.declared } }))

-- the size that is declared for a list
abbrev pub declared_size_of : History → ListName → Option ℕ
declared_size_of history name = option_map (λ list. list.1) (find (λ list. same_name list.0 name) history.declared)

-- a line that begins a change; the line itself is a part of the rest
abbrev pub after_change_line : Kept → ListName → ℕ → ℕ → Option ℕ → Result LineReading JournalFault
after_change_line kept name to_add to_remove None = Err (fault.UnknownList (next_line kept.versions))
after_change_line kept name to_add to_remove (Some size) =
    if nat_le most_changes (length kept.versions.changes) then Err (fault.TooMany (next_line kept.versions))
    else Ok (record {
      kept = kept;
      begun = Some (record { list = name; declared_size = size; to_add = to_add; to_remove = to_remove; adds = []; removes = [] });
    })

abbrev pub after_head : Kept → Option Head → Result LineReading JournalFault
after_head kept None = Err (fault.Line (next_line kept.versions))
after_head kept (Some (head.List name size)) = after_list kept name size
after_head kept (Some (head.Change name to_add to_remove)) = after_change_line kept name to_add to_remove (declared_size_of kept.versions name)

-- the change that has come whole
abbrev pub change_of : Begun → Change
change_of begun = record { list = begun.list; adds = begun.adds; removes = begun.removes }

abbrev pub with_change : Change → History → History
with_change change history = record history { changes = history.changes ++ change ∷ [] }

-- the last line of a change, which is then a change of the history unless it passes a limit
abbrev pub if_within_limits : Kept → Option JournalFault → Result LineReading JournalFault
if_within_limits kept None = Ok (at_record kept)
if_within_limits kept (Some fault) = Err fault

abbrev pub completed : Kept → Begun → Result LineReading JournalFault
completed kept begun =
    let versions = with_change (change_of begun) kept.versions in
    if_within_limits (record kept { versions = versions })
    (limit_fault_at (next_line kept.versions + lines_begun begun) (sizes_at versions begun.list (version_count versions)))

abbrev pub is_complete : Begun → Bool
is_complete begun = length begun.adds == begun.to_add && length begun.removes == begun.to_remove

-- a change with one more hash line than before
abbrev pub settled : Kept → Begun → Result LineReading JournalFault
settled kept begun = if is_complete begun then completed kept begun else Ok (record { kept = kept; begun = Some begun })

abbrev pub counted : Kept → Begun → Result LineReading JournalFault
counted kept begun =
    if nat_lt most_hash_lines (hash_lines kept.versions.changes + lines_begun begun)
    then Err (fault.TooMany (next_line kept.versions + lines_begun begun))
    else settled kept begun

abbrev pub with_add : Kept → Begun → Option Added → Result LineReading JournalFault
with_add kept begun None = Err (fault.Line (next_hash_line kept.versions begun))
with_add kept begun (Some added) = counted kept (record begun { adds = begun.adds ++ added ∷ [] })

abbrev pub with_remove : Kept → Begun → Option (List ℕ) → Result LineReading JournalFault
with_remove kept begun None = Err (fault.Line (next_hash_line kept.versions begun))
with_remove kept begun (Some hash) = counted kept (record begun { removes = begun.removes ++ hash ∷ [] })

-- The lines that add come first.
abbrev pub adds_next : Begun → Bool
adds_next begun = nat_lt (length begun.adds) begun.to_add

-- ---- a journal

-- a line has at most so many bytes
abbrev pub most_line : ℕ
most_line = 128

abbrev pub if_short : {A : Type 0} → List ℕ → Option A → Option A
if_short line read = if nat_lt most_line (length line) then None else read

abbrev pub after_line_of : Kept → Option Begun → List ℕ → Result LineReading JournalFault
after_line_of kept None line = after_head kept (if_short line (head_of line))
after_line_of kept (Some begun) line =
    if adds_next begun
    then with_add kept begun (if_short line (added_in_line kept.sized begun.declared_size line))
    else with_remove kept begun (if_short line (removed_of line))

-- The bytes of a record are the rest until the record has ended.
abbrev pub with_bytes : List ℕ → Kept → Kept
with_bytes bytes kept = record kept { rest = kept.rest ++ bytes }

unfoldable pub after_line : LineReading → List ℕ → Result LineReading JournalFault
after_line reading line = after_line_of (with_bytes (line ++ newline ∷ []) reading.kept) reading.begun line

-- a line that is not whole is no fault, unless it is too long
abbrev pub line_fault : History → Option Begun → JournalFault
line_fault history None = fault.Line (next_line history)
line_fault history (Some begun) = fault.Line (next_hash_line history begun)

abbrev pub after_front : LineReading → List ℕ → Result Kept JournalFault
after_front reading front =
    if nat_lt most_line (length front) then Err (line_fault reading.kept.versions reading.begun) else Ok (with_bytes front reading.kept)

-- the lines of a text, and then what stands after its last newline
abbrev pub after_part : List (List ℕ) → List ℕ → LineReading → Result Kept JournalFault
after_part [] part reading = after_front reading part
after_part (next ∷ parts) part reading = after_line reading part >>= after_part parts next

abbrev pub after_parts : LineReading → List (List ℕ) → Result Kept JournalFault
after_parts reading [] = Ok reading.kept
after_parts reading (part ∷ parts) = after_part parts part reading

abbrev pub after_bytes : LineReading → List ℕ → Result Kept JournalFault
after_bytes reading bytes = after_parts reading (slice_split is_newline bytes)

-- what further bytes of a journal make of what was read of it, or the first bad line among them
unfoldable pub read_on : Kept → List ℕ → Result Kept JournalFault
read_on kept bytes = after_bytes (at_record kept) (kept.rest ++ bytes)

-- the history before the first record
abbrev pub empty_history : ℕ → History
empty_history epoch = record { epoch = epoch; declared = []; changes = [] }

abbrev pub after_header : Option Header → List (List ℕ) → Result Kept JournalFault
after_header None parts = Err fault.Header
after_header (Some header) parts =
    after_parts (record { kept = record { sized = header.sized; versions = empty_history header.epoch; rest = [] }; begun = None }) parts

-- The first line has to be whole, also where the journal is still written.
abbrev pub after_first : List (List ℕ) → Result Kept JournalFault
after_first (first ∷ part ∷ parts) = after_header (if_short first (header_of first)) (part ∷ parts)
after_first _ = Err fault.Header

-- what a journal says so far, or its first bad line
unfoldable pub kept_of : List ℕ → Result Kept JournalFault
kept_of journal = after_first (slice_split is_newline journal)
