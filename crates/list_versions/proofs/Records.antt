-- Records: a line that declares a list, or a change.
use Rattle.std.proofs.Common.{◌≡◌, ℕ, ◌+◌, ◌<◌, ◌≤◌, nat_lt, nat_le, List, [], ◌∷◌, ◌++◌, Bool, true, false, ◌||◌, cond, if◌then◌else◌, length, refl, sym, ap, ◌∙◌, subst, arith, Some, None, Result, Ok, Err, append_assoc, ◌⊎◌, inl, inr}
use Rattle.std.specs.Prelude.{All, find, option_map}
use Rattle.std.specs.List.{list_any}
use Rattle.std.proofs.lemmas.Bool.Decides.{nat_tests}
use Rattle.std.proofs.lemmas.List.{append-nil}
use Rattle.std.proofs.lemmas.List.Elements.{All-head, All-tail}
use Rattle.sb_model.specs.declared.names.ListName.{ListName}
use Rattle.sb_model.specs.History.{declares, IsPrefixSize}
use Rattle.list_versions.specs.Lines.{newline, head_of}
use Rattle.list_versions.specs.Limits.{most_changes}
use Rattle.list_versions.specs.Journal.{Kept, LineReading, ◌>>=◌, after_line, after_bytes, after_head, after_list, after_change_line, declared_size_of, most_line, next_line, settled}
use Rattle.list_versions.specs.Split.{IsLine, IsFront, IsLong}
use Rattle.list_versions.specs.Draft.{declared_of, history_of, kept_of_draft, IsDraft, begun_of, before_record, within_change, after_begin, before_next, Moves, Waits, Fails}
use Rattle.list_versions.specs.declared.draft.Begin.{Begin}
use Rattle.list_versions.specs.declared.draft.Draft.{Draft}
use Rattle.list_versions.specs.declared.heads.Head.TheVariants as head
use Rattle.list_versions.specs.declared.fault.JournalFault.{JournalFault}
use Rattle.list_versions.specs.declared.fault.JournalFault.TheVariants as fault
use Rattle.list_versions.proofs.Applying.{is_named}
use Rattle.list_versions.proofs.Reading.{bytes_line, bytes_front, bytes_long, open_adds, open_removes}

-- ---- the declared size

abbrev IsFound : ListName → List (ListName × ℕ) → ℕ → Type 0
IsFound name declared size = IsPrefixSize size × (list_any (is_named name) declared ≡ true)

found_at : (name : ListName) (x : ListName × ℕ) (xs : List (ListName × ℕ)) (size : ℕ) (b : Bool) → is_named name x ≡ b → IsPrefixSize x.1 → (option_map (λ (list : ListName × ℕ). list.1) (find (is_named name) xs) ≡ Some size → IsFound name xs size)
    → option_map (λ (list : ListName × ℕ). list.1) (cond b (Some x) (find (is_named name) xs)) ≡ Some size → IsPrefixSize size × ((b || list_any (is_named name) xs) ≡ true)
found_at name x xs size true e own more h = (subst IsPrefixSize (some_same x.1 size h) own, refl)
  where
    some_same : (m n : ℕ) → Some m ≡ Some n → m ≡ n
    some_same m n h = cc
found_at name x xs size false e own more h = more h

found : (name : ListName) (declared : List (ListName × ℕ)) (size : ℕ) → All (λ (list : ListName × ℕ). IsPrefixSize list.1) declared → option_map (λ (list : ListName × ℕ). list.1) (find (is_named name) declared) ≡ Some size → IsFound name declared size
found name [] size a h = absurd (cc)
found name (x ∷ xs) size a h =
    found_at name x xs size (is_named name x) refl (All-head (λ (list : ListName × ℕ). IsPrefixSize list.1) x xs a) (found name xs size (All-tail (λ (list : ListName × ℕ). IsPrefixSize list.1) x xs a)) h

pub size_found : (draft : Draft) (name : ListName) (size : ℕ) → IsDraft draft → Some size ≡ declared_size_of (history_of draft) name → IsPrefixSize size × (declares (history_of draft) name ≡ true)
size_found draft name size h e = found name (declared_of draft.lists.items) size h.well_formed.declared (sym e)

-- ---- the line that begins a change

choose_false : {A : Type 0} (b : Bool) (x y : A) → b ≡ false → (if b then x else y) ≡ y
choose_false true x y h = absurd (cc)
choose_false false x y h = refl

choose_true : {A : Type 0} (b : Bool) (x y : A) → b ≡ true → (if b then x else y) ≡ x
choose_true true x y h = refl
choose_true false x y h = absurd (cc)

pub fails_unknown : (draft : Draft) (list : ListName) (to_add to_remove line : ℕ) (bytes : List ℕ) → None ≡ declared_size_of (history_of draft) list → line ≡ next_line (history_of draft) → Fails (after_begin draft list to_add to_remove) bytes (fault.UnknownList line)
fails_unknown draft list to_add to_remove line bytes h e seen more =
    ap (λ size. after_change_line (kept_of_draft draft seen) list to_add to_remove size >>= λ reading. after_bytes reading (bytes ++ more)) (sym h) ∙ ap (λ n. Err (fault.UnknownList n)) (sym e)

pub fails_full : (draft : Draft) (list : ListName) (to_add to_remove size line : ℕ) (bytes : List ℕ) → Some size ≡ declared_size_of (history_of draft) list → 65536 ≤ length draft.changes.items → line ≡ next_line (history_of draft) → Fails (after_begin draft list to_add to_remove) bytes (fault.TooMany line)
fails_full draft list to_add to_remove size line bytes h many e seen more =
    let full : nat_le most_changes (length draft.changes.items) ≡ true = grind (arith, nat_tests) in
    ap (λ s. after_change_line (kept_of_draft draft seen) list to_add to_remove s >>= λ reading. after_bytes reading (bytes ++ more)) (sym h)
    ∙ ap (λ r. r >>= λ reading. after_bytes reading (bytes ++ more)) (choose_true _ _ _ full) ∙ ap (λ n. Err (fault.TooMany n)) (sym e)

pub begin_same : (draft : Draft) (begin : Begin) → 1 ≤ begin.to_add + begin.to_remove → Some begin.size ≡ declared_size_of (history_of draft) begin.list → length draft.changes.items < 65536
    → (seen bytes : List ℕ) → after_begin draft begin.list begin.to_add begin.to_remove seen bytes ≡ within_change draft begin [] [] seen bytes
begin_same draft begin some h few seen bytes =
    let room : nat_le most_changes (length draft.changes.items) ≡ false = grind (arith, nat_tests) in
    ap (λ s. after_change_line (kept_of_draft draft seen) begin.list begin.to_add begin.to_remove s >>= λ reading. after_bytes reading bytes) (sym h)
    ∙ ap (λ r. r >>= λ reading. after_bytes reading bytes) (choose_false _ _ _ room)
    ∙ sym (ap (λ r. r >>= λ reading. after_bytes reading bytes) (opened_at (nat_lt 0 begin.to_add) refl))
  where
    opened_at : (b : Bool) → nat_lt 0 begin.to_add ≡ b → settled (kept_of_draft draft seen) (begun_of begin [] []) ≡ Ok (record { kept = kept_of_draft draft seen; begun = Some (begun_of begin [] []) })
    opened_at true e = open_adds draft begin [] [] seen (grind (arith, nat_tests))
    opened_at false e = open_removes draft begin [] [] seen (let none : begin.to_add ≤ 0 = grind (arith, nat_tests) in omega arith)

-- ---- the same of what is the same

pub moves_same : {f g h : List ℕ → List ℕ → Result Kept JournalFault} {a b : List ℕ} {m : ℕ} (k : ℕ) → ((seen bytes : List ℕ) → f seen bytes ≡ g seen bytes) → Moves g h a b m → m ≤ k → Moves f h a b k
moves_same {f} {g} {h} {a} {b} k same moves fits = record {
  taken = moves.taken;
  whole = moves.whole;
  few = omega (arith, moves.few);
  same = λ seen more. same seen (a ++ more) ∙ moves.same seen more;
}

pub moves_to : {f g h : List ℕ → List ℕ → Result Kept JournalFault} {a b : List ℕ} {m : ℕ} → ((seen bytes : List ℕ) → g seen bytes ≡ h seen bytes) → Moves f g a b m → Moves f h a b m
moves_to {f} {g} {h} {a} {b} same moves = record {
  taken = moves.taken;
  whole = moves.whole;
  few = moves.few;
  same = λ seen more. moves.same seen more ∙ same (seen ++ moves.taken) (b ++ more);
}

pub waits_same : (draft : Draft) {f g : List ℕ → List ℕ → Result Kept JournalFault} {a : List ℕ} → ((seen bytes : List ℕ) → f seen bytes ≡ g seen bytes) → Waits draft g a → Waits draft f a
waits_same draft {f} {g} {a} same waits seen = same seen a ∙ waits seen

pub fails_same : {f g : List ℕ → List ℕ → Result Kept JournalFault} (a : List ℕ) (fault : JournalFault) → ((seen bytes : List ℕ) → f seen bytes ≡ g seen bytes) → Fails g a fault → Fails f a fault
fails_same {f} {g} a fault same fails seen more = same seen (a ++ more) ∙ fails seen more

pub fails_at_end : {f : List ℕ → List ℕ → Result Kept JournalFault} (a : List ℕ) (fault : JournalFault) → ((seen bytes : List ℕ) → f seen bytes ≡ Err fault) → Fails f a fault
fails_at_end {f} a fault h seen more = h seen (a ++ more)

-- ---- the first line of a record

short : (line : List ℕ) → length line ≤ 128 → nat_lt most_line (length line) ≡ false
short line h = grind (arith, nat_tests)

head_line : (draft : Draft) (line : List ℕ) → length line ≤ 128 → after_line (record { kept = kept_of_draft draft []; begun = None }) line ≡ after_head (kept_of_draft draft (line ++ newline ∷ [])) (head_of line)
unfolding after_line
head_line draft line h = ap (after_head (kept_of_draft draft (line ++ newline ∷ []))) (choose_false (nat_lt most_line (length line)) None (head_of line) (short line h))

pub record_line : (draft : Draft) (bytes line rest more : List ℕ) → IsLine bytes line rest → before_record draft [] (bytes ++ more) ≡ (after_head (kept_of_draft draft (line ++ newline ∷ [])) (head_of line) >>= λ next. after_bytes next (rest ++ more))
record_line draft bytes line rest more h =
    bytes_line (record { kept = kept_of_draft draft []; begun = None }) bytes line rest more h ∙ ap (λ r. r >>= λ next. after_bytes next (rest ++ more)) (head_line draft line h.short)

pub record_front : (draft : Draft) (bytes : List ℕ) → IsFront bytes → before_record draft [] bytes ≡ Ok (kept_of_draft draft bytes)
record_front draft bytes h = bytes_front (record { kept = kept_of_draft draft []; begun = None }) bytes h

pub record_long : (draft : Draft) (bytes : List ℕ) (line : ℕ) → line ≡ next_line (history_of draft) → IsLong bytes → (more : List ℕ) → before_record draft [] (bytes ++ more) ≡ Err (fault.Line line)
record_long draft bytes line e h more = bytes_long (record { kept = kept_of_draft draft []; begun = None }) bytes more h ∙ ap (λ n. Err (fault.Line n)) (sym e)

pub record_bad : (draft : Draft) (bytes text rest : List ℕ) (line : ℕ) → line ≡ next_line (history_of draft) → IsLine bytes text rest → None ≡ head_of text → (more : List ℕ) → before_record draft [] (bytes ++ more) ≡ Err (fault.Line line)
record_bad draft bytes text rest line e h none more =
    record_line draft bytes text rest more h ∙ ap (λ r. after_head (kept_of_draft draft (text ++ newline ∷ [])) r >>= λ next. after_bytes next (rest ++ more)) (sym none) ∙ ap (λ n. Err (fault.Line n)) (sym e)

pub record_list : (draft : Draft) (bytes text rest : List ℕ) (name : ListName) (size : ℕ) (answer : Result LineReading JournalFault) → IsLine bytes text rest → Some (head.List name size) ≡ head_of text
    → ((kept : List ℕ) → after_list (kept_of_draft draft kept) name size ≡ answer) → (more : List ℕ) → before_record draft [] (bytes ++ more) ≡ (answer >>= λ next. after_bytes next (rest ++ more))
record_list draft bytes text rest name size answer h is same more =
    record_line draft bytes text rest more h ∙ ap (λ r. after_head (kept_of_draft draft (text ++ newline ∷ [])) r >>= λ next. after_bytes next (rest ++ more)) (sym is)
    ∙ ap (λ r. r >>= λ next. after_bytes next (rest ++ more)) (same (text ++ newline ∷ []))

pub record_change : (draft : Draft) (bytes text rest : List ℕ) (name : ListName) (to_add to_remove : ℕ) → IsLine bytes text rest → Some (head.Change name to_add to_remove) ≡ head_of text
    → (more : List ℕ) → before_record draft [] (bytes ++ more) ≡ after_begin draft name to_add to_remove (text ++ newline ∷ []) (rest ++ more)
record_change draft bytes text rest name to_add to_remove h is more =
    record_line draft bytes text rest more h ∙ ap (λ r. after_head (kept_of_draft draft (text ++ newline ∷ [])) r >>= λ next. after_bytes next (rest ++ more)) (sym is)

-- ---- a change as a record

pub change_moves : (old new : Draft) (bytes text rest last : List ℕ) (name : ListName) (to_add to_remove m : ℕ) → IsLine bytes text rest → Some (head.Change name to_add to_remove) ≡ head_of text
    → Moves (after_begin old name to_add to_remove) (before_next new) rest last m → (more : List ℕ) → before_record old [] (bytes ++ more) ≡ before_record new [] (last ++ more)
change_moves old new bytes text rest last name to_add to_remove m h is moves more = record_change old bytes text rest name to_add to_remove h is more ∙ moves.same (text ++ newline ∷ []) more

pub change_waits : (draft : Draft) (bytes text rest : List ℕ) (name : ListName) (to_add to_remove : ℕ) → IsLine bytes text rest → Some (head.Change name to_add to_remove) ≡ head_of text
    → Waits draft (after_begin draft name to_add to_remove) rest → before_record draft [] bytes ≡ Ok (kept_of_draft draft bytes)
change_waits draft bytes text rest name to_add to_remove h is waits =
    ap (before_record draft []) (sym (append-nil bytes)) ∙ record_change draft bytes text rest name to_add to_remove h is []
    ∙ ap (after_begin draft name to_add to_remove (text ++ newline ∷ [])) (append-nil rest) ∙ waits (text ++ newline ∷ [])
    ∙ ap (λ bs. Ok (kept_of_draft draft bs)) (append_assoc text (newline ∷ []) rest ∙ sym h.whole)

pub change_fails : (draft : Draft) (bytes text rest : List ℕ) (name : ListName) (to_add to_remove : ℕ) (fault : JournalFault) → IsLine bytes text rest → Some (head.Change name to_add to_remove) ≡ head_of text
    → Fails (after_begin draft name to_add to_remove) rest fault → (more : List ℕ) → before_record draft [] (bytes ++ more) ≡ Err fault
change_fails draft bytes text rest name to_add to_remove fault h is fails more = record_change draft bytes text rest name to_add to_remove h is more ∙ fails (text ++ newline ∷ []) more

pub map_fault : {A B C : Type 0} → (B → C) → A ⊎ B → A ⊎ C
map_fault f (inl a) = inl a
map_fault f (inr b) = inr (f b)
