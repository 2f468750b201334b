-- A text that begins with a whole record is refused behind a record that has not ended.
use Rattle.std.proofs.Common.{◌≡◌, ◌≢◌, ℕ, ◌+◌, ◌<◌, nat_lt, nat_le, List, [], ◌∷◌, ◌++◌, Bool, true, false, if◌then◌else◌, length, refl, sym, ap, ◌∙◌, arith, append_assoc, Option, Some, None, Result, Ok, Err}
use Rattle.std.specs.Prelude.{⊤, All}
use Rattle.std.specs.List.{slice_split, flat_map}
use Rattle.std.proofs.lemmas.List.{append-nil}
use Rattle.std.proofs.lemmas.List.Splits.{slice_split_at}
use Rattle.sb_model.specs.declared.history.Added.{Added}
use Rattle.sb_model.specs.declared.history.Change.{Change}
use Rattle.sb_model.specs.declared.names.ListName.{ListName}
use Rattle.sb_model.specs.History.{declares, sizes_at, version_count}
use Rattle.list_versions.specs.declared.fault.JournalFault.{JournalFault}
use Rattle.list_versions.specs.declared.fault.JournalFault.TheVariants as fault
use Rattle.list_versions.specs.declared.heads.Head.{Head}
use Rattle.list_versions.specs.declared.heads.Head.TheVariants as head
use Rattle.list_versions.specs.Journal.{Kept, Begun, LineReading, ◌>>=◌, after_line, after_line_of, after_part, after_parts, after_head, after_list, after_change_line, settled, completed, counted, with_add, with_remove, if_within_limits, if_short, declared_size_of, with_bytes, adds_next, is_complete, with_change, change_of, next_line, next_hash_line, line_fault, lines_begun, most_line, at_record, with_list, read_on}
use Rattle.list_versions.specs.Limits.{limit_fault_at, most_changes, most_declared_lists, most_hash_lines, hash_lines}
use Rattle.list_versions.specs.Lines.{newline, is_newline, head_of, added_in_line, removed_of}
use Rattle.list_versions.specs.Written.{add_line, change_line, change_text, remove_line}
use Rattle.journal_run.proofs.Joined.{joined, all_joined, has_parts, slice_split-append}
use Rattle.journal_run.proofs.BeginningLines.{beginning_line, beginning_is_line}
use Rattle.journal_run.proofs.NoLines.{no_head, no_add, no_remove}

-- ---- after a line no byte of a record has come unless a change has begun

abbrev IsClear : Option Begun → List ℕ → Type 0
IsClear None rest = rest ≡ []
IsClear (Some begun) rest = ⊤

abbrev LeavesClear : Result LineReading JournalFault → Type 0
LeavesClear (Ok reading) = IsClear reading.begun reading.kept.rest
LeavesClear (Err f) = ⊤

clear_if : (b : Bool) (x y : Result LineReading JournalFault) → LeavesClear x → LeavesClear y → LeavesClear (if b then x else y)
clear_if true x y h k = h
clear_if false x y h k = k

clear_change : (kept : Kept) (name : ListName) (to_add to_remove : ℕ) (size : Option ℕ) → LeavesClear (after_change_line kept name to_add to_remove size)
clear_change kept name to_add to_remove None = tt
clear_change kept name to_add to_remove (Some size) =
    let begun : Begun = record { list = name; declared_size = size; to_add = to_add; to_remove = to_remove; adds = []; removes = [] } in
    let next : LineReading = record { kept = kept; begun = Some begun } in
    clear_if (nat_le most_changes (length kept.versions.changes)) (Err (fault.TooMany (next_line kept.versions))) (Ok next) tt tt

clear_list : (kept : Kept) (name : ListName) (size : ℕ) → LeavesClear (after_list kept name size)
clear_list kept name size =
    let next : LineReading = at_record (record kept { versions = record kept.versions { declared = with_list name size kept.versions.declared } }) in
    let many : Result LineReading JournalFault = if nat_le most_declared_lists (length kept.versions.declared) then Err (fault.TooMany (next_line kept.versions)) else Ok next in
    clear_if (declares kept.versions name) (Err (fault.ListTwice (next_line kept.versions))) many tt
    (clear_if (nat_le most_declared_lists (length kept.versions.declared)) (Err (fault.TooMany (next_line kept.versions))) (Ok next) tt refl)

clear_head : (kept : Kept) (head : Option Head) → LeavesClear (after_head kept head)
clear_head kept None = tt
clear_head kept (Some (head.List name size)) = clear_list kept name size
clear_head kept (Some (head.Change name to_add to_remove)) = clear_change kept name to_add to_remove (declared_size_of kept.versions name)

clear_limits : (kept : Kept) (found : Option JournalFault) → LeavesClear (if_within_limits kept found)
clear_limits kept None = refl
clear_limits kept (Some f) = tt

clear_settled : (kept : Kept) (begun : Begun) → LeavesClear (settled kept begun)
clear_settled kept begun =
    let versions = with_change (change_of begun) kept.versions in
    let next : LineReading = record { kept = kept; begun = Some begun } in
    clear_if (is_complete begun) (completed kept begun) (Ok next)
    (clear_limits (record kept { versions = versions }) (limit_fault_at (next_line kept.versions + lines_begun begun) (sizes_at versions begun.list (version_count versions)))) tt

clear_counted : (kept : Kept) (begun : Begun) → LeavesClear (counted kept begun)
clear_counted kept begun =
    clear_if (nat_lt most_hash_lines (hash_lines kept.versions.changes + lines_begun begun)) (Err (fault.TooMany (next_line kept.versions + lines_begun begun))) (settled kept begun) tt
    (clear_settled kept begun)

clear_add : (kept : Kept) (begun : Begun) (added : Option Added) → LeavesClear (with_add kept begun added)
clear_add kept begun None = tt
clear_add kept begun (Some added) = clear_counted kept (record begun { adds = begun.adds ++ added ∷ [] })

clear_remove : (kept : Kept) (begun : Begun) (hash : Option (List ℕ)) → LeavesClear (with_remove kept begun hash)
clear_remove kept begun None = tt
clear_remove kept begun (Some hash) = clear_counted kept (record begun { removes = begun.removes ++ hash ∷ [] })

clear_line_of : (kept : Kept) (begun : Option Begun) (line : List ℕ) → LeavesClear (after_line_of kept begun line)
clear_line_of kept None line = clear_head kept (if_short line (head_of line))
clear_line_of kept (Some begun) line =
    let add = if_short line (added_in_line kept.sized begun.declared_size line) in
    let remove = if_short line (removed_of line) in
    clear_if (adds_next begun) (with_add kept begun add) (with_remove kept begun remove) (clear_add kept begun add) (clear_remove kept begun remove)

clear_line : (reading : LineReading) (line : List ℕ) → LeavesClear (after_line reading line)
unfolding after_line
clear_line reading line = clear_line_of (with_bytes (line ++ newline ∷ []) reading.kept) reading.begun line

-- ---- the line that begins a change is refused behind the front of another line, and within a change

abbrev IsRefused : {A : Type 0} → Result A JournalFault → Type 0
IsRefused r = (f : JournalFault) × (r ≡ Err f)

not_short : {A : Type 0} (b : Bool) (read : Option A) → read ≡ None → (if b then None else read) ≡ None
not_short true read h = refl
not_short false read h = h

refused_if : {A : Type 0} (b : Bool) (x y : Result A JournalFault) → IsRefused x → IsRefused y → IsRefused (if b then x else y)
refused_if true x y h k = h
refused_if false x y h k = k

refused_line_of : (kept : Kept) (begun : Option Begun) (front : List ℕ) (change : Change) → IsClear begun kept.rest → kept.rest ++ front ≢ [] → (bytes : List ℕ)
    → IsRefused (after_line_of (with_bytes bytes kept) begun (front ++ beginning_line change))
refused_line_of kept None [] change clear some bytes = absurd (some (append-nil kept.rest ∙ clear))
refused_line_of kept None (byte ∷ front) change clear some bytes =
    let line = (byte ∷ front) ++ beginning_line change in
    (fault.Line (next_line kept.versions), ap (after_head (with_bytes bytes kept)) (not_short (nat_lt most_line (length line)) (head_of line) (no_head byte front change)))
refused_line_of kept (Some begun) front change clear some bytes =
    let line = front ++ beginning_line change in
    let long = nat_lt most_line (length line) in
    let next = with_bytes bytes kept in
    let bad = fault.Line (next_hash_line kept.versions begun) in
    refused_if (adds_next begun) (with_add next begun (if_short line (added_in_line kept.sized begun.declared_size line))) (with_remove next begun (if_short line (removed_of line)))
    (bad, ap (with_add next begun) (not_short long (added_in_line kept.sized begun.declared_size line) (no_add front kept.sized begun.declared_size change)))
    (bad, ap (with_remove next begun) (not_short long (removed_of line) (no_remove front change)))

refused_line : (reading : LineReading) (front : List ℕ) (change : Change) → IsClear reading.begun reading.kept.rest → reading.kept.rest ++ front ≢ []
    → IsRefused (after_line reading (front ++ beginning_line change))
unfolding after_line
refused_line reading front change clear some = refused_line_of reading.kept reading.begun front change clear some ((front ++ beginning_line change) ++ newline ∷ [])

-- ---- a whole text

-- what stands after the last newline is the end of what is kept
same_rest : (a b : Kept) (r s : Result Kept JournalFault) → r ≡ Ok a → s ≡ Ok b → r ≡ s → a.rest ≡ b.rest
same_rest a b r s e h k = let same : a ≡ b = cc in ap (λ (kept : Kept). kept.rest) same

front_kept : (b : Bool) (f : JournalFault) (next kept : Kept) → (if b then Err f else Ok next) ≡ Ok kept → next.rest ≡ kept.rest
front_kept true f next kept e = absurd (cc)
front_kept false f next kept e = same_rest next kept (Ok next) (Ok kept) refl refl e

-- what is refused leads nowhere
not_taken : {A B : Type 0} (r : Result A JournalFault) (go : A → Result B JournalFault) (b : B) → IsRefused r → (r >>= go) ≢ Ok b
not_taken (Ok a) go b h e = let no = h.1 in absurd (cc)
not_taken (Err f) go b h e = absurd (cc)

-- the first of several lines, and then the others
parts_then : (parts : List (List ℕ)) (part next line last : List ℕ) (more : List (List ℕ)) (reading : LineReading)
    → after_part (joined next parts (line ∷ last ∷ more)) part reading ≡ (after_line reading part >>= λ read. after_parts read (joined next parts (line ∷ last ∷ more)))
parts_then [] part next line last more reading = refl
parts_then (other ∷ parts) part next line last more reading = refl

-- a line that both texts have
refused_then : (r : Result LineReading JournalFault) (go on : LineReading → Result Kept JournalFault) (kept after : Kept) → LeavesClear r
    → ((read : LineReading) → IsClear read.begun read.kept.rest → go read ≡ Ok kept → on read ≢ Ok after) → (r >>= go) ≡ Ok kept → (r >>= on) ≢ Ok after
refused_then (Ok read) go on kept after clear later front e = later read clear front e
refused_then (Err f) go on kept after clear later front e = absurd (cc)

-- the lines that both texts have, and then the line that begins the change behind what stands after the last newline
refused_parts : (parts : List (List ℕ)) (part : List ℕ) (reading : LineReading) (change : Change) (last : List ℕ) (more : List (List ℕ)) (kept after : Kept)
    → IsClear reading.begun reading.kept.rest → after_part parts part reading ≡ Ok kept → kept.rest ≢ []
    → after_parts reading (joined part parts (beginning_line change ∷ last ∷ more)) ≢ Ok after
refused_parts [] part reading change last more kept after clear front some e =
    let rest = front_kept (nat_lt most_line (length part)) (line_fault reading.kept.versions reading.begun) (with_bytes part reading.kept) kept front in
    not_taken (after_line reading (part ++ beginning_line change)) (after_part more last) after
    (refused_line reading part change clear (λ none. some (sym rest ∙ none))) e
refused_parts (next ∷ parts) part reading change last more kept after clear front some e =
    refused_then (after_line reading part) (after_part parts next) (λ read. after_parts read (joined next parts (beginning_line change ∷ last ∷ more))) kept after
    (clear_line reading part) (λ read now later. refused_parts parts next read change last more kept after now later some) front
    (sym (parts_then parts part next (beginning_line change) last more reading) ∙ e)

refused_all : (parts ends : List (List ℕ)) (reading : LineReading) (change : Change) (kept after : Kept) → 0 < length parts → 0 < length ends
    → IsClear reading.begun reading.kept.rest → after_parts reading parts ≡ Ok kept → kept.rest ≢ []
    → after_parts reading (all_joined parts (beginning_line change ∷ ends)) ≢ Ok after
refused_all [] ends reading change kept after h k clear front some e = absurd (omega arith)
refused_all (part ∷ parts) [] reading change kept after h k clear front some e = absurd (omega arith)
refused_all (part ∷ parts) (last ∷ more) reading change kept after h k clear front some e =
    refused_parts parts part reading change last more kept after clear front some e

-- the hash lines of the change, and what follows
later_lines : Bool → Change → List ℕ → List ℕ
later_lines sized change more = flat_map (add_line sized) change.adds ++ (flat_map remove_line change.removes ++ more)

text_begins : (sized : Bool) (change : Change) (more : List ℕ) → change_text sized change ++ more ≡ beginning_line change ++ newline ∷ later_lines sized change more
unfolding change_text later_lines
text_begins sized change more =
    let adds = flat_map (add_line sized) change.adds in
    let removes = flat_map remove_line change.removes in
    append_assoc (change_line change ++ adds) removes more ∙ append_assoc (change_line change) adds (removes ++ more)
    ∙ append_assoc (beginning_line change) (newline ∷ []) (adds ++ (removes ++ more))

reads : (kept : Kept) (bytes : List ℕ) → read_on kept bytes ≡ after_parts (at_record kept) (slice_split is_newline (kept.rest ++ bytes))
unfolding read_on
reads kept bytes = refl

parts_of_both : (front line later : List ℕ) → All (λ byte. is_newline byte ≡ false) line
    → slice_split is_newline (front ++ (line ++ newline ∷ later)) ≡ all_joined (slice_split is_newline front) (line ∷ slice_split is_newline later)
parts_of_both front line later one =
    slice_split-append is_newline front (line ++ newline ∷ later)
    ∙ ap (all_joined (slice_split is_newline front)) (slice_split_at is_newline line newline later one refl)

pub record_waits : (kept after : Kept) (sized : Bool) (change : Change) (more : List ℕ) → read_on kept [] ≡ Ok kept → kept.rest ≢ []
    → read_on kept (change_text sized change ++ more) ≢ Ok after
record_waits kept after sized change more front some e =
    let later = later_lines sized change more in
    let whole = ap (read_on kept) (text_begins sized change more) ∙ reads kept (beginning_line change ++ newline ∷ later)
    ∙ ap (after_parts (at_record kept)) (parts_of_both kept.rest (beginning_line change) later (beginning_is_line change)) in
    let known = ap (λ (bytes : List ℕ). after_parts (at_record kept) (slice_split is_newline bytes)) (sym (append-nil kept.rest)) ∙ sym (reads kept []) ∙ front in
    refused_all (slice_split is_newline kept.rest) (slice_split is_newline later) (at_record kept) change kept after
    (has_parts is_newline kept.rest) (has_parts is_newline later) refl known some (sym whole ∙ e)
