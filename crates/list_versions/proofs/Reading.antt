-- What lines do to a reading.
use Rattle.std.proofs.Common.{◌≡◌, ℕ, ◌+◌, ◌<◌, ◌≤◌, nat_lt, nat_eq, List, [], ◌∷◌, ◌++◌, Bool, true, false, ◌&&◌, if◌then◌else◌, length, refl, sym, ap, ◌∙◌, arith, length-append, append_assoc, Option, Some, None, Result, Ok, Err}
use Rattle.std.specs.List.{slice_split}
use Rattle.std.proofs.lemmas.Bool.Decides.{nat_tests}
use Rattle.std.proofs.lemmas.List.{append-nil}
use Rattle.sb_model.specs.declared.history.Added.{Added}
use Rattle.list_versions.specs.Lines.{newline, is_newline, added_in_line, removed_of}
use Rattle.list_versions.specs.Limits.{hash_lines, most_hash_lines}
use Rattle.list_versions.specs.Journal.{Kept, Begun, LineReading, ◌>>=◌, after_line, after_line_of, after_part, after_parts, after_bytes, if_short, with_add, with_remove, settled, is_complete, adds_next, with_bytes, line_fault, most_line, next_line, next_hash_line, lines_begun}
use Rattle.list_versions.specs.Split.{IsLine, IsFront, IsLong}
use Rattle.list_versions.specs.Draft.{within_change, begun_of, kept_of_draft, history_of, Moves, Waits, Fails}
use Rattle.list_versions.specs.declared.draft.Begin.{Begin}
use Rattle.list_versions.specs.declared.draft.Draft.{Draft}
use Rattle.list_versions.specs.declared.fault.JournalFault.{JournalFault}
use Rattle.list_versions.specs.declared.fault.JournalFault.TheVariants as fault
use Rattle.list_versions.proofs.Parts.{parts_some}
use Rattle.list_versions.proofs.LineEnds.{parts_line, parts_front, parts_long}

after_parts_line : (reading : LineReading) (line : List ℕ) (parts : List (List ℕ)) → 0 < length parts → after_parts reading (line ∷ parts) ≡ (after_line reading line >>= λ next. after_parts next parts)
after_parts_line reading line [] h = absurd (omega arith)
after_parts_line reading line (part ∷ parts) h = refl

-- a line, and then the rest
pub bytes_line : (reading : LineReading) (bytes line rest more : List ℕ) → IsLine bytes line rest → after_bytes reading (bytes ++ more) ≡ (after_line reading line >>= λ next. after_bytes next (rest ++ more))
bytes_line reading bytes line rest more h =
    ap (after_parts reading) (parts_line bytes line rest more h) ∙ after_parts_line reading line (slice_split is_newline (rest ++ more)) (parts_some is_newline (rest ++ more))

front_at : (b : Bool) (f : JournalFault) (kept : Kept) → b ≡ false → (if b then Err f else Ok kept) ≡ Ok kept
front_at true f kept h = absurd (cc)
front_at false f kept h = refl

not_long : (n : ℕ) → n ≤ 128 → nat_lt most_line n ≡ false
not_long n h = grind (arith, nat_tests)

is_long : (n : ℕ) → 129 ≤ n → nat_lt most_line n ≡ true
is_long n h = grind (arith, nat_tests)

pub bytes_front : (reading : LineReading) (bytes : List ℕ) → IsFront bytes → after_bytes reading bytes ≡ Ok (with_bytes bytes reading.kept)
bytes_front reading bytes h =
    ap (after_parts reading) (parts_front bytes h)
    ∙ front_at (nat_lt most_line (length bytes)) (line_fault reading.kept.versions reading.begun) (with_bytes bytes reading.kept) (not_long (length bytes) h.short)

-- a line that is too long
with_add_at : (b : Bool) (kept : Kept) (begun : Begun) → (if b then with_add kept begun None else with_remove kept begun None) ≡ Err (fault.Line (next_hash_line kept.versions begun))
with_add_at true kept begun = refl
with_add_at false kept begun = refl

long_line_of : (kept : Kept) (begun : Option Begun) (line : List ℕ) → nat_lt most_line (length line) ≡ true → after_line_of kept begun line ≡ Err (line_fault kept.versions begun)
long_line_of kept None line h = rw h refl
long_line_of kept (Some begun) line h = rw h (with_add_at (adds_next begun) kept begun)

long_line : (reading : LineReading) (line : List ℕ) → nat_lt most_line (length line) ≡ true → after_line reading line ≡ Err (line_fault reading.kept.versions reading.begun)
unfolding after_line
long_line reading line h = long_line_of (with_bytes (line ++ newline ∷ []) reading.kept) reading.begun line h

long_parts : (reading : LineReading) (first : List ℕ) (others : List (List ℕ)) → nat_lt most_line (length first) ≡ true → after_parts reading (first ∷ others) ≡ Err (line_fault reading.kept.versions reading.begun)
long_parts reading first [] h = rw h refl
long_parts reading first (part ∷ parts) h = ap (λ r. r >>= after_part parts part) (long_line reading first h)

pub bytes_long : (reading : LineReading) (bytes more : List ℕ) → IsLong bytes → after_bytes reading (bytes ++ more) ≡ Err (line_fault reading.kept.versions reading.begun)
bytes_long reading bytes more h =
    let first = parts_long bytes more h in
    ap (after_parts reading) first.are ∙ long_parts reading first.first first.others (is_long (length first.first) first.long)

-- ---- a change that has begun

both_false : (a b : Bool) → a ≡ false → (a && b) ≡ false
both_false a b h = rw h refl

last_false : (a b : Bool) → b ≡ false → (a && b) ≡ false
last_false true b h = h
last_false false b h = refl

not_equal : (m n : ℕ) → m < n → nat_eq m n ≡ false
not_equal m n h = grind (arith, nat_tests)

settled_at : (b : Bool) (done : Result LineReading JournalFault) (open' : LineReading) → b ≡ false → (if b then done else Ok open') ≡ Ok open'
settled_at true done open' h = absurd (cc)
settled_at false done open' h = refl

pub open_adds : (draft : Draft) (begin : Begin) (adds : List Added) (removes : List (List ℕ)) (seen : List ℕ) → length adds < begin.to_add
    → settled (kept_of_draft draft seen) (begun_of begin adds removes) ≡ Ok (record { kept = kept_of_draft draft seen; begun = Some (begun_of begin adds removes) })
open_adds draft begin adds removes seen h = settled_at (is_complete (begun_of begin adds removes)) _ _ (both_false _ _ (not_equal _ _ h))

pub open_removes : (draft : Draft) (begin : Begin) (adds : List Added) (removes : List (List ℕ)) (seen : List ℕ) → length removes < begin.to_remove
    → settled (kept_of_draft draft seen) (begun_of begin adds removes) ≡ Ok (record { kept = kept_of_draft draft seen; begun = Some (begun_of begin adds removes) })
open_removes draft begin adds removes seen h = settled_at (is_complete (begun_of begin adds removes)) _ _ (last_false (nat_eq (length adds) begin.to_add) _ (not_equal _ _ h))

-- what is known where the change is open
abbrev pub IsOpen : Draft → Begin → List Added → List (List ℕ) → Type 0
IsOpen draft begin adds removes = (seen : List ℕ) → settled (kept_of_draft draft seen) (begun_of begin adds removes) ≡ Ok (record { kept = kept_of_draft draft seen; begun = Some (begun_of begin adds removes) })

abbrev pub opened : Draft → Begin → List Added → List (List ℕ) → List ℕ → LineReading
opened draft begin adds removes seen = record { kept = kept_of_draft draft seen; begun = Some (begun_of begin adds removes) }

is_opened : (draft : Draft) (begin : Begin) (adds : List Added) (removes : List (List ℕ)) → IsOpen draft begin adds removes → (seen bytes : List ℕ) → within_change draft begin adds removes seen bytes ≡ after_bytes (opened draft begin adds removes seen) bytes
is_opened draft begin adds removes h seen bytes = ap (λ r. r >>= λ reading. after_bytes reading bytes) (h seen)

pub waits_open : (draft : Draft) (begin : Begin) (adds : List Added) (removes : List (List ℕ)) (bytes : List ℕ) → IsOpen draft begin adds removes → IsFront bytes → Waits draft (within_change draft begin adds removes) bytes
waits_open draft begin adds removes bytes h front seen = is_opened draft begin adds removes h seen bytes ∙ bytes_front (opened draft begin adds removes seen) bytes front

pub fails_long : (draft : Draft) (begin : Begin) (adds : List Added) (removes : List (List ℕ)) (bytes : List ℕ) (n : ℕ) → IsOpen draft begin adds removes → n ≡ next_hash_line (history_of draft) (begun_of begin adds removes) → IsLong bytes
    → Fails (within_change draft begin adds removes) bytes (fault.Line n)
fails_long draft begin adds removes bytes n h e long seen more =
    is_opened draft begin adds removes h seen (bytes ++ more) ∙ bytes_long (opened draft begin adds removes seen) bytes more long ∙ ap (λ m. Err (fault.Line m)) (sym e)

-- a line that is bad
fails_line : (draft : Draft) (begin : Begin) (adds : List Added) (removes : List (List ℕ)) (bytes line rest : List ℕ) (f : JournalFault) → IsOpen draft begin adds removes → IsLine bytes line rest
    → ((seen : List ℕ) → after_line (opened draft begin adds removes seen) line ≡ Err f) → Fails (within_change draft begin adds removes) bytes f
fails_line draft begin adds removes bytes line rest f h line_is bad seen more =
    is_opened draft begin adds removes h seen (bytes ++ more) ∙ bytes_line (opened draft begin adds removes seen) bytes line rest more line_is
    ∙ ap (λ r. r >>= λ next. after_bytes next (rest ++ more)) (bad seen)

-- a line that is good
moves_line : (draft : Draft) (begin : Begin) (adds adds' : List Added) (removes removes' : List (List ℕ)) (bytes line rest : List ℕ) → IsOpen draft begin adds removes → IsLine bytes line rest
    → ((seen : List ℕ) → after_line (opened draft begin adds removes seen) line ≡ settled (kept_of_draft draft (seen ++ (line ++ newline ∷ []))) (begun_of begin adds' removes'))
    → Moves (within_change draft begin adds removes) (within_change draft begin adds' removes') bytes rest 129
moves_line draft begin adds adds' removes removes' bytes line rest h line_is good = record {
  taken = line ++ newline ∷ [];
  whole = line_is.whole ∙ sym (append_assoc line (newline ∷ []) rest);
  few = omega (arith, length-append line (newline ∷ []), line_is.short);
  same = λ seen more. is_opened draft begin adds removes h seen (bytes ++ more) ∙ bytes_line (opened draft begin adds removes seen) bytes line rest more line_is
      ∙ ap (λ r. r >>= λ next. after_bytes next (rest ++ more)) (good seen);
}

pub short_is : {A : Type 0} (line : List ℕ) (read : Option A) → length line ≤ 128 → if_short line read ≡ read
short_is line read h = rw (not_long (length line) h) refl

pub choose_true : {A : Type 0} (b : Bool) (x y : A) → b ≡ true → (if b then x else y) ≡ x
choose_true true x y h = refl
choose_true false x y h = absurd (cc)

pub choose_false : {A : Type 0} (b : Bool) (x y : A) → b ≡ false → (if b then x else y) ≡ y
choose_false true x y h = absurd (cc)
choose_false false x y h = refl

pub line_add : (kept : Kept) (begun : Begun) (line : List ℕ) → adds_next begun ≡ true → length line ≤ 128
    → after_line (record { kept = kept; begun = Some begun }) line ≡ with_add (with_bytes (line ++ newline ∷ []) kept) begun (added_in_line kept.sized begun.declared_size line)
unfolding after_line
line_add kept begun line h short =
    choose_true (adds_next begun) _ _ h ∙ ap (λ read. with_add (with_bytes (line ++ newline ∷ []) kept) begun read) (short_is line (added_in_line kept.sized begun.declared_size line) short)

pub line_remove : (kept : Kept) (begun : Begun) (line : List ℕ) → adds_next begun ≡ false → length line ≤ 128
    → after_line (record { kept = kept; begun = Some begun }) line ≡ with_remove (with_bytes (line ++ newline ∷ []) kept) begun (removed_of line)
unfolding after_line
line_remove kept begun line h short =
    choose_false (adds_next begun) _ _ h ∙ ap (λ read. with_remove (with_bytes (line ++ newline ∷ []) kept) begun read) (short_is line (removed_of line) short)

-- the next line is one that adds
next_adds : (begin : Begin) (adds : List Added) (removes : List (List ℕ)) → length adds < begin.to_add → adds_next (begun_of begin adds removes) ≡ true
next_adds begin adds removes h = grind (arith, nat_tests)

next_removes : (begin : Begin) (adds : List Added) (removes : List (List ℕ)) → length adds ≡ begin.to_add → adds_next (begun_of begin adds removes) ≡ false
next_removes begin adds removes h = grind (arith, nat_tests)

pub within : (n : ℕ) → n ≤ 2097152 → nat_lt most_hash_lines n ≡ false
within n h = grind (arith, nat_tests)

past : (n : ℕ) → 2097152 < n → nat_lt most_hash_lines n ≡ true
past n h = grind (arith, nat_tests)

pub fails_add : (draft : Draft) (begin : Begin) (adds : List Added) (bytes line rest : List ℕ) (n : ℕ) → length adds < begin.to_add → n ≡ next_hash_line (history_of draft) (begun_of begin adds []) → IsLine bytes line rest
    → None ≡ added_in_line draft.sized begin.size line → Fails (within_change draft begin adds []) bytes (fault.Line n)
fails_add draft begin adds bytes line rest n more e line_is read =
    fails_line draft begin adds [] bytes line rest (fault.Line n) (λ seen. open_adds draft begin adds [] seen more) line_is
    (λ seen. line_add (kept_of_draft draft seen) (begun_of begin adds []) line (next_adds begin adds [] more) line_is.short
    ∙ ap (λ r. with_add (kept_of_draft draft (seen ++ (line ++ newline ∷ []))) (begun_of begin adds []) r) (sym read) ∙ ap (λ m. Err (fault.Line m)) (sym e))

pub fails_add_past : (draft : Draft) (begin : Begin) (adds : List Added) (added : Added) (bytes line rest : List ℕ) (n : ℕ) → length adds < begin.to_add → n ≡ next_line (history_of draft) + lines_begun (begun_of begin (adds ++ added ∷ []) []) → IsLine bytes line rest
    → Some added ≡ added_in_line draft.sized begin.size line → 2097152 < hash_lines draft.changes.items + lines_begun (begun_of begin (adds ++ added ∷ []) []) → Fails (within_change draft begin adds []) bytes (fault.TooMany n)
fails_add_past draft begin adds added bytes line rest n more e line_is read many =
    fails_line draft begin adds [] bytes line rest (fault.TooMany n) (λ seen. open_adds draft begin adds [] seen more) line_is
    (λ seen. line_add (kept_of_draft draft seen) (begun_of begin adds []) line (next_adds begin adds [] more) line_is.short
    ∙ ap (λ r. with_add (kept_of_draft draft (seen ++ (line ++ newline ∷ []))) (begun_of begin adds []) r) (sym read)
    ∙ choose_true _ _ _ (past _ many) ∙ ap (λ m. Err (fault.TooMany m)) (sym e))

pub moves_add : (draft : Draft) (begin : Begin) (adds : List Added) (added : Added) (bytes line rest : List ℕ) → length adds < begin.to_add → IsLine bytes line rest
    → Some added ≡ added_in_line draft.sized begin.size line → hash_lines draft.changes.items + lines_begun (begun_of begin (adds ++ added ∷ []) []) ≤ 2097152
    → Moves (within_change draft begin adds []) (within_change draft begin (adds ++ added ∷ []) []) bytes rest 129
moves_add draft begin adds added bytes line rest more line_is read few =
    moves_line draft begin adds (adds ++ added ∷ []) [] [] bytes line rest (λ seen. open_adds draft begin adds [] seen more) line_is
    (λ seen. line_add (kept_of_draft draft seen) (begun_of begin adds []) line (next_adds begin adds [] more) line_is.short
    ∙ ap (λ r. with_add (kept_of_draft draft (seen ++ (line ++ newline ∷ []))) (begun_of begin adds []) r) (sym read)
    ∙ choose_false _ _ _ (within _ few))

pub fails_remove : (draft : Draft) (begin : Begin) (adds : List Added) (removes : List (List ℕ)) (bytes line rest : List ℕ) (n : ℕ) → length adds ≡ begin.to_add → length removes < begin.to_remove → n ≡ next_hash_line (history_of draft) (begun_of begin adds removes) → IsLine bytes line rest
    → None ≡ removed_of line → Fails (within_change draft begin adds removes) bytes (fault.Line n)
fails_remove draft begin adds removes bytes line rest n done more e line_is read =
    fails_line draft begin adds removes bytes line rest (fault.Line n) (λ seen. open_removes draft begin adds removes seen more) line_is
    (λ seen. line_remove (kept_of_draft draft seen) (begun_of begin adds removes) line (next_removes begin adds removes done) line_is.short
    ∙ ap (λ r. with_remove (kept_of_draft draft (seen ++ (line ++ newline ∷ []))) (begun_of begin adds removes) r) (sym read) ∙ ap (λ m. Err (fault.Line m)) (sym e))

pub fails_remove_past : (draft : Draft) (begin : Begin) (adds : List Added) (removes : List (List ℕ)) (hash bytes line rest : List ℕ) (n : ℕ) → length adds ≡ begin.to_add → length removes < begin.to_remove → n ≡ next_line (history_of draft) + lines_begun (begun_of begin adds (removes ++ hash ∷ [])) → IsLine bytes line rest
    → Some hash ≡ removed_of line → 2097152 < hash_lines draft.changes.items + lines_begun (begun_of begin adds (removes ++ hash ∷ [])) → Fails (within_change draft begin adds removes) bytes (fault.TooMany n)
fails_remove_past draft begin adds removes hash bytes line rest n done more e line_is read many =
    fails_line draft begin adds removes bytes line rest (fault.TooMany n) (λ seen. open_removes draft begin adds removes seen more) line_is
    (λ seen. line_remove (kept_of_draft draft seen) (begun_of begin adds removes) line (next_removes begin adds removes done) line_is.short
    ∙ ap (λ r. with_remove (kept_of_draft draft (seen ++ (line ++ newline ∷ []))) (begun_of begin adds removes) r) (sym read)
    ∙ choose_true _ _ _ (past _ many) ∙ ap (λ m. Err (fault.TooMany m)) (sym e))

pub moves_remove : (draft : Draft) (begin : Begin) (adds : List Added) (removes : List (List ℕ)) (hash bytes line rest : List ℕ) → length adds ≡ begin.to_add → length removes < begin.to_remove → IsLine bytes line rest
    → Some hash ≡ removed_of line → hash_lines draft.changes.items + lines_begun (begun_of begin adds (removes ++ hash ∷ [])) ≤ 2097152
    → Moves (within_change draft begin adds removes) (within_change draft begin adds (removes ++ hash ∷ [])) bytes rest 129
moves_remove draft begin adds removes hash bytes line rest done more line_is read few =
    moves_line draft begin adds adds removes (removes ++ hash ∷ []) bytes line rest (λ seen. open_removes draft begin adds removes seen more) line_is
    (λ seen. line_remove (kept_of_draft draft seen) (begun_of begin adds removes) line (next_removes begin adds removes done) line_is.short
    ∙ ap (λ r. with_remove (kept_of_draft draft (seen ++ (line ++ newline ∷ []))) (begun_of begin adds removes) r) (sym read)
    ∙ choose_false _ _ _ (within _ few))

-- ---- one after the other

pub moves_then : {f g h : List ℕ → List ℕ → Result Kept JournalFault} {a b c : List ℕ} {m n : ℕ} (k : ℕ) → Moves f g a b m → Moves g h b c n → m + n ≤ k → Moves f h a c k
moves_then {f} {g} {h} {a} {b} {c} k first second fits = record {
  taken = first.taken ++ second.taken;
  whole = first.whole ∙ ap (λ bs. first.taken ++ bs) second.whole ∙ sym (append_assoc first.taken second.taken c);
  few = omega (arith, length-append first.taken second.taken, first.few, second.few);
  same = λ seen more. first.same seen more ∙ second.same (seen ++ first.taken) more ∙ ap (λ bs. h bs (c ++ more)) (append_assoc seen first.taken second.taken);
}

pub waits_then : (draft : Draft) {f g : List ℕ → List ℕ → Result Kept JournalFault} {a b : List ℕ} {m : ℕ} → Moves f g a b m → Waits draft g b → Waits draft f a
waits_then draft {f} {g} {a} {b} first waits seen =
    ap (λ bs. f seen bs) (sym (append-nil a)) ∙ first.same seen [] ∙ ap (λ bs. g (seen ++ first.taken) bs) (append-nil b) ∙ waits (seen ++ first.taken)
    ∙ ap (λ bs. Ok (kept_of_draft draft bs)) (append_assoc seen first.taken b ∙ ap (λ bs. seen ++ bs) (sym first.whole))

pub fails_then : {f g : List ℕ → List ℕ → Result Kept JournalFault} {a b : List ℕ} {m : ℕ} (fault : JournalFault) → Moves f g a b m → Fails g b fault → Fails f a fault
fails_then fault first fails seen more = first.same seen more ∙ fails (seen ++ first.taken) more

pub moves_none : (f : List ℕ → List ℕ → Result Kept JournalFault) (a : List ℕ) → Moves f f a a 0
moves_none f a = record {
  taken = [];
  whole = refl;
  few = omega arith;
  same = λ seen more. ap (λ bs. f bs (a ++ more)) (sym (append-nil seen));
}
