-- Lines have no other faults than those of lines.
use Rattle.std.proofs.Common.{◌≡◌, ◌≢◌, ℕ, ◌+◌, Bool, true, false, ◌||◌, nat_lt, nat_le, if◌then◌else◌, List, [], ◌∷◌, ◌++◌, length, Option, Some, None, Result, Ok, Err, subst, ◌⊎◌, inl, inr, sym, ◌∙◌}
use Rattle.std.specs.Prelude.{⊤}
use Rattle.std.specs.List.{slice_split}
use Rattle.sb_model.specs.declared.history.Added.{Added}
use Rattle.sb_model.specs.declared.names.ListName.{ListName}
use Rattle.sb_model.specs.History.{declares, sizes_at, version_count}
use Rattle.list_versions.specs.declared.draft.Draft.{Draft}
use Rattle.list_versions.specs.declared.fault.JournalFault.{JournalFault}
use Rattle.list_versions.specs.declared.fault.JournalFault.TheVariants as fault
use Rattle.list_versions.specs.declared.heads.Head.{Head}
use Rattle.list_versions.specs.declared.heads.Head.TheVariants as head
use Rattle.list_versions.specs.Draft.{before_record}
use Rattle.list_versions.specs.Journal.{Kept, Begun, LineReading, ◌>>=◌, after_list, after_change_line, after_head, if_within_limits, completed, settled, counted, with_add, with_remove, after_line_of, after_line, line_fault, after_front, after_part, after_parts, after_bytes, if_short, declared_size_of, with_bytes, adds_next, is_complete, with_change, change_of, next_line, lines_begun, most_line, at_record, with_list}
use Rattle.list_versions.specs.Limits.{is_crowded, prefix_bytes, most_hashes, most_prefix_bytes, most_changes, most_declared_lists, most_hash_lines, hash_lines}
use Rattle.list_versions.specs.Lines.{newline, is_newline, head_of, added_in_line, removed_of}
use Rattle.list_versions.specs.Pieces.{Further, IsBad, FaultAt}

abbrev pub IsLineFault : JournalFault → Type 0
IsLineFault fault.ReadFault = ⊥
IsLineFault fault.Header = ⊥
IsLineFault fault.OutOfMemory = ⊥
IsLineFault (fault.Line n) = ⊤
IsLineFault (fault.UnknownList n) = ⊤
IsLineFault (fault.ListTwice n) = ⊤
IsLineFault (fault.TooMany n) = ⊤
IsLineFault (fault.TooLarge n) = ⊤

abbrev HasLineFault : {A : Type 0} → Result A JournalFault → Type 0
HasLineFault (Ok a) = ⊤
HasLineFault (Err f) = IsLineFault f

has_then : {A B : Type 0} (r : Result A JournalFault) (f : A → Result B JournalFault) → HasLineFault r → ((a : A) → HasLineFault (f a)) → HasLineFault (r >>= f)
has_then (Ok a) f h k = k a
has_then (Err e) f h k = h

has_if : {A : Type 0} (b : Bool) (x y : Result A JournalFault) → HasLineFault x → HasLineFault y → HasLineFault (if b then x else y)
has_if true x y h k = h
has_if false x y h k = k

has_fault_if : {A : Type 0} (b : Bool) (f : JournalFault) (y : Result A JournalFault) → IsLineFault f → HasLineFault y → HasLineFault (if b then Err f else y)
has_fault_if true f y h k = h
has_fault_if false f y h k = k

has_change : (kept : Kept) (name : ListName) (to_add to_remove : ℕ) (size : Option ℕ) → HasLineFault (after_change_line kept name to_add to_remove size)
has_change kept name to_add to_remove None = tt
has_change kept name to_add to_remove (Some size) =
    let begun : Begun = record { list = name; declared_size = size; to_add = to_add; to_remove = to_remove; adds = []; removes = [] } in
    let next : LineReading = record { kept = kept; begun = Some begun } in
    has_fault_if (nat_le most_changes (length kept.versions.changes)) (fault.TooMany (next_line kept.versions)) (Ok next) tt tt

has_list : (kept : Kept) (name : ListName) (size : ℕ) → HasLineFault (after_list kept name size)
has_list kept name size =
    let next : LineReading = at_record (record kept { versions = record kept.versions { declared = with_list name size kept.versions.declared } }) in
    let many : Result LineReading JournalFault = if nat_le most_declared_lists (length kept.versions.declared) then Err (fault.TooMany (next_line kept.versions)) else Ok next in
    has_fault_if (declares kept.versions name) (fault.ListTwice (next_line kept.versions)) many tt
    (has_fault_if (nat_le most_declared_lists (length kept.versions.declared)) (fault.TooMany (next_line kept.versions)) (Ok next) tt tt)

has_head : (kept : Kept) (head : Option Head) → HasLineFault (after_head kept head)
has_head kept None = tt
has_head kept (Some (head.List name size)) = has_list kept name size
has_head kept (Some (head.Change name to_add to_remove)) = has_change kept name to_add to_remove (declared_size_of kept.versions name)

has_limits : (kept : Kept) (n : ℕ) (a b c : Bool) → HasLineFault (if_within_limits kept (if a || b then Some (fault.TooMany n) else if c then Some (fault.TooLarge n) else None))
has_limits kept n true b c = tt
has_limits kept n false true c = tt
has_limits kept n false false true = tt
has_limits kept n false false false = tt

has_completed : (kept : Kept) (begun : Begun) → HasLineFault (completed kept begun)
has_completed kept begun =
    let versions = with_change (change_of begun) kept.versions in
    let entries = sizes_at versions begun.list (version_count versions) in
    has_limits (record kept { versions = versions }) (next_line kept.versions + lines_begun begun) (nat_lt most_hashes (length entries)) (is_crowded entries) (nat_lt most_prefix_bytes (prefix_bytes entries))

has_settled : (kept : Kept) (begun : Begun) → HasLineFault (settled kept begun)
has_settled kept begun =
    let next : LineReading = record { kept = kept; begun = Some begun } in
    has_if (is_complete begun) (completed kept begun) (Ok next) (has_completed kept begun) tt

has_counted : (kept : Kept) (begun : Begun) → HasLineFault (counted kept begun)
has_counted kept begun =
    has_fault_if (nat_lt most_hash_lines (hash_lines kept.versions.changes + lines_begun begun)) (fault.TooMany (next_line kept.versions + lines_begun begun)) (settled kept begun) tt (has_settled kept begun)

has_add : (kept : Kept) (begun : Begun) (added : Option Added) → HasLineFault (with_add kept begun added)
has_add kept begun None = tt
has_add kept begun (Some added) = has_counted kept (record begun { adds = begun.adds ++ added ∷ [] })

has_remove : (kept : Kept) (begun : Begun) (hash : Option (List ℕ)) → HasLineFault (with_remove kept begun hash)
has_remove kept begun None = tt
has_remove kept begun (Some hash) = has_counted kept (record begun { removes = begun.removes ++ hash ∷ [] })

has_line_of : (kept : Kept) (begun : Option Begun) (line : List ℕ) → HasLineFault (after_line_of kept begun line)
has_line_of kept None line = has_head kept (if_short line (head_of line))
has_line_of kept (Some begun) line =
    let add = if_short line (added_in_line kept.sized begun.declared_size line) in
    let remove = if_short line (removed_of line) in
    has_if (adds_next begun) (with_add kept begun add) (with_remove kept begun remove) (has_add kept begun add) (has_remove kept begun remove)

has_line : (reading : LineReading) (line : List ℕ) → HasLineFault (after_line reading line)
unfolding after_line
has_line reading line = has_line_of (with_bytes (line ++ newline ∷ []) reading.kept) reading.begun line

front_fault : (kept : Kept) (begun : Option Begun) → IsLineFault (line_fault kept.versions begun)
front_fault kept None = tt
front_fault kept (Some begun) = tt

has_front : (reading : LineReading) (front : List ℕ) → HasLineFault (after_front reading front)
has_front reading front =
    has_fault_if (nat_lt most_line (length front)) (line_fault reading.kept.versions reading.begun) (Ok (with_bytes front reading.kept)) (front_fault reading.kept reading.begun) tt

has_part : (parts : List (List ℕ)) (part : List ℕ) (reading : LineReading) → HasLineFault (after_part parts part reading)
has_part [] part reading = has_front reading part
has_part (next ∷ parts) part reading = has_then (after_line reading part) (after_part parts next) (has_line reading part) (λ r. has_part parts next r)

has_parts : (reading : LineReading) (parts : List (List ℕ)) → HasLineFault (after_parts reading parts)
has_parts reading [] = tt
has_parts reading (part ∷ parts) = has_part parts part reading

pub line_faults : (reading : LineReading) (bytes : List ℕ) (f : JournalFault) → after_bytes reading bytes ≡ Err f → IsLineFault f
line_faults reading bytes f e = subst HasLineFault e (has_parts reading (slice_split is_newline bytes))

-- a bad line
pub bad_line : (further : Further) (bytes : List ℕ) (f : JournalFault) → IsLineFault f → IsBad further bytes f → FaultAt further bytes f
bad_line further bytes fault.ReadFault l h = absurd l
bad_line further bytes fault.Header l h = absurd l
bad_line further bytes fault.OutOfMemory l h = absurd l
bad_line further bytes (fault.Line n) l h = h
bad_line further bytes (fault.UnknownList n) l h = h
bad_line further bytes (fault.ListTwice n) l h = h
bad_line further bytes (fault.TooMany n) l h = h
bad_line further bytes (fault.TooLarge n) l h = h

no_memory : (further : Further) (bytes : List ℕ) (f : JournalFault) → f ≡ fault.OutOfMemory → FaultAt further bytes f
no_memory further bytes f e = subst (FaultAt further bytes) (sym e) tt

-- why records are not read on
pub records_fault : (draft : Draft) (further : Further) (bytes text : List ℕ) (f : JournalFault) → ((more : List ℕ) → further (bytes ++ more) ≡ before_record draft [] (text ++ more))
    → (f ≡ fault.OutOfMemory) ⊎ ((more : List ℕ) → before_record draft [] (text ++ more) ≡ Err f) → FaultAt further bytes f
records_fault draft further bytes text f same (inl e) = no_memory further bytes f e
records_fault draft further bytes text f same (inr bad) =
    bad_line further bytes f (line_faults _ (text ++ []) f (bad [])) (λ more. same more ∙ bad more)

-- and the source has no part in it
pub records_not_read : (draft : Draft) (text : List ℕ) (f : JournalFault)
    → (f ≡ fault.OutOfMemory) ⊎ ((more : List ℕ) → before_record draft [] (text ++ more) ≡ Err f) → f ≢ fault.ReadFault
records_not_read draft text f (inl e) is = cc
records_not_read draft text f (inr bad) is = subst IsLineFault is (line_faults _ (text ++ []) f (bad []))
