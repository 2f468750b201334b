-- Lines, and the versions at which they end.
use Rattle.std.proofs.Common.{◌≡◌, ◌⊎◌, ℕ, zero, suc, ◌+◌, ◌<◌, ◌≤◌, nat_lt, Bool, true, false, ◌&&◌, cond, List, [], ◌∷◌, ◌++◌, length, take, drop, map, get_or, set, fold, refl, sym, ap, ◌∙◌, inl, inr, arith, length-append}
use Rattle.std.specs.Prelude.{All, ◌==◌}
use Rattle.std.specs.List.{filter}
use Rattle.std.specs.Str.{bytes_eq}
use Rattle.std.proofs.lemmas.Bool.Decides.{nat_tests}
use Rattle.std.proofs.lemmas.Bool.{eqb-true}
use Rattle.std.proofs.lemmas.List.{map-append, take-append-le, length-map}
use Rattle.std.proofs.lemmas.List.Elements.{filter-append, All-head, All-tail, All-cons, All-nil, All-push}
use Rattle.sb_model.specs.declared.history.Added.{Added}
use Rattle.sb_model.specs.History.{without_hash, with_added}
use Rattle.list_versions.specs.Ends.{Line, never, standing, ended, ended_line, lengthened, after_lines, restored, restored_end, unended}

lt_true : (m n : ℕ) → m < n → nat_lt m n ≡ true
lt_true m n h = grind (arith, nat_tests)

lt_false : (m n : ℕ) → n ≤ m → nat_lt m n ≡ false
lt_false m n h = grind (arith, nat_tests)

pub not_never : (n : ℕ) → n < never → (n == never) ≡ false
not_never n h = grind (arith, nat_tests)

pub is_never : (n : ℕ) → n ≡ never → (n == never) ≡ true
is_never n h = grind (arith, nat_tests)

pub never_is : (n : ℕ) → (n == never) ≡ true → n ≡ never
never_is n h = eqb-true n never h

-- ---- the hashes stay

ended_added : (b : Bool) (version : ℕ) (line : Line) → (cond b (line.0, version) line).0 ≡ line.0
ended_added true version line = refl
ended_added false version line = refl

pub ended_adds : (version : ℕ) (lines : List Line) (hash : List ℕ) → map (λ (l : Line). l.0) (ended version lines hash) ≡ map (λ (l : Line). l.0) lines
ended_adds version [] hash = refl
ended_adds version (line ∷ lines) hash =
    ap (λ (a : Added). a ∷ map (λ (l : Line). l.0) (ended version lines hash)) (ended_added (line.1 == never && bytes_eq line.0.hash hash) version line)
    ∙ ap (λ (es : List Added). line.0 ∷ es) (ended_adds version lines hash)

pub removed_adds : (version : ℕ) (removes : List (List ℕ)) (lines : List Line) → map (λ (l : Line). l.0) (fold (ended version) lines removes) ≡ map (λ (l : Line). l.0) lines
removed_adds version [] lines = refl
removed_adds version (hash ∷ removes) lines = removed_adds version removes (ended version lines hash) ∙ ended_adds version lines hash

lengthened_adds : (version : ℕ) (lines : List Line) (added : Added) → map (λ (l : Line). l.0) (lengthened version lines added) ≡ map (λ (l : Line). l.0) lines ++ added ∷ []
lengthened_adds version lines added =
    map-append {B = Added} (λ (l : Line). l.0) (ended version lines added.hash) ((added, never) ∷ []) ∙ ap (λ (es : List Added). es ++ added ∷ []) (ended_adds version lines added.hash)

assoc_cons : (xs : List Added) (a : Added) (bs : List Added) → (xs ++ a ∷ []) ++ bs ≡ xs ++ a ∷ bs
assoc_cons [] a bs = refl
assoc_cons (x ∷ xs) a bs = ap (λ ys. x ∷ ys) (assoc_cons xs a bs)

nil_right : (xs : List Added) → xs ++ [] ≡ xs
nil_right [] = refl
nil_right (x ∷ xs) = ap (λ ys. x ∷ ys) (nil_right xs)

added_adds : (version : ℕ) (adds : List Added) (lines : List Line) → map (λ (l : Line). l.0) (fold (lengthened version) lines adds) ≡ map (λ (l : Line). l.0) lines ++ adds
added_adds version [] lines = sym (nil_right (map (λ (l : Line). l.0) lines))
added_adds version (added ∷ adds) lines =
    added_adds version adds (lengthened version lines added) ∙ ap (λ (es : List Added). es ++ adds) (lengthened_adds version lines added)
    ∙ assoc_cons (map (λ (l : Line). l.0) lines) added adds

pub after_adds : (version : ℕ) (lines : List Line) (removes : List (List ℕ)) (adds : List Added) → map (λ (l : Line). l.0) (after_lines version lines removes adds) ≡ map (λ (l : Line). l.0) lines ++ adds
after_adds version lines removes adds =
    added_adds version adds (fold (ended version) lines removes) ∙ ap (λ (es : List Added). es ++ adds) (removed_adds version removes lines)

-- ---- how many they are

pub length-ended : (version : ℕ) (lines : List Line) (hash : List ℕ) → length (ended version lines hash) ≡ length lines
length-ended version lines hash = length-map {B = Line} lines (ended_line hash version)

pub length-lengthened : (version : ℕ) (lines : List Line) (added : Added) → length (lengthened version lines added) ≡ length lines + 1
length-lengthened version lines added = omega (arith, length-append (ended version lines added.hash) ((added, never) ∷ []), length-ended version lines added.hash)

pub length-removed : (version : ℕ) (removes : List (List ℕ)) (lines : List Line) → length (fold (ended version) lines removes) ≡ length lines
length-removed version [] lines = refl
length-removed version (hash ∷ removes) lines = length-removed version removes (ended version lines hash) ∙ length-ended version lines hash

pub length-added : (version : ℕ) (adds : List Added) (lines : List Line) → length (fold (lengthened version) lines adds) ≡ length lines + length adds
length-added version [] lines = omega arith
length-added version (added ∷ adds) lines = omega (arith, length-added version adds (lengthened version lines added), length-lengthened version lines added)

-- ---- those that stand at an earlier version

kept_step : (v : ℕ) (x y : Line) (xs ys : List Line) (b : Bool) → nat_lt v x.1 ≡ b → nat_lt v y.1 ≡ b → x.0 ≡ y.0 → standing v xs ≡ standing v ys → standing v (x ∷ xs) ≡ standing v (y ∷ ys)
kept_step v x y xs ys true e f h more = rw (e, f) (ap (λ (a : Added). a ∷ standing v xs) h ∙ ap (λ (es : List Added). y.0 ∷ es) more)
kept_step v x y xs ys false e f h more = rw (e, f) more

still : (v version : ℕ) (line : Line) (a b : Bool) → v < version → version < never → (line.1 == never) ≡ a → nat_lt v (cond (a && b) (line.0, version) line).1 ≡ nat_lt v line.1
still v version line true true lt small e = lt_true v version lt ∙ sym (lt_true v line.1 (omega (arith, never_is line.1 e, lt, small)))
still v version line true false lt small e = refl
still v version line false b lt small e = refl

standing_ended : (v version : ℕ) (lines : List Line) (hash : List ℕ) → v < version → version < never → standing v (ended version lines hash) ≡ standing v lines
standing_ended v version [] hash lt small = refl
standing_ended v version (line ∷ lines) hash lt small =
    kept_step v (ended_line hash version line) line (ended version lines hash) lines (nat_lt v line.1)
    (still v version line (line.1 == never) (bytes_eq line.0.hash hash) lt small refl) refl
    (ended_added (line.1 == never && bytes_eq line.0.hash hash) version line) (standing_ended v version lines hash lt small)

take_map : (f : Line → Line) (n : ℕ) (lines : List Line) → take n (map f lines) ≡ map f (take n lines)
take_map f zero lines = refl
take_map f (suc n) [] = refl
take_map f (suc n) (line ∷ lines) = ap (λ ls. f line ∷ ls) (take_map f n lines)

front_ended : (v version n : ℕ) (lines : List Line) (hash : List ℕ) → v < version → version < never → standing v (take n (ended version lines hash)) ≡ standing v (take n lines)
front_ended v version n lines hash lt small = ap (standing v) (take_map (ended_line hash version) n lines) ∙ standing_ended v version (take n lines) hash lt small

front_lengthened : (v version n : ℕ) (lines : List Line) (added : Added) → v < version → version < never → n ≤ length lines
    → standing v (take n (lengthened version lines added)) ≡ standing v (take n lines)
front_lengthened v version n lines added lt small few =
    ap (standing v) (take-append-le n (ended version lines added.hash) ((added, never) ∷ []) (omega (arith, few, length-ended version lines added.hash)))
    ∙ front_ended v version n lines added.hash lt small

front_removed : (v version n : ℕ) (removes : List (List ℕ)) (lines : List Line) → v < version → version < never → standing v (take n (fold (ended version) lines removes)) ≡ standing v (take n lines)
front_removed v version n [] lines lt small = refl
front_removed v version n (hash ∷ removes) lines lt small = front_removed v version n removes (ended version lines hash) lt small ∙ front_ended v version n lines hash lt small

front_added : (v version n : ℕ) (adds : List Added) (lines : List Line) → v < version → version < never → n ≤ length lines
    → standing v (take n (fold (lengthened version) lines adds)) ≡ standing v (take n lines)
front_added v version n [] lines lt small few = refl
front_added v version n (added ∷ adds) lines lt small few =
    front_added v version n adds (lengthened version lines added) lt small (omega (arith, few, length-lengthened version lines added))
    ∙ front_lengthened v version n lines added lt small few

-- what stood at an earlier version stands there still
pub front_after : (v version n : ℕ) (lines : List Line) (removes : List (List ℕ)) (adds : List Added) → v < version → version < never → n ≤ length lines
    → standing v (take n (after_lines version lines removes adds)) ≡ standing v (take n lines)
front_after v version n lines removes adds lt small few =
    front_added v version n adds (fold (ended version) lines removes) lt small (omega (arith, few, length-removed version removes lines)) ∙ front_removed v version n removes lines lt small

-- ---- those that have no end

unended_step : (version : ℕ) (hash : List ℕ) (line : Line) (xs ys : List Line) (a b : Bool) → (version == never) ≡ false → (line.1 == never) ≡ a → bytes_eq line.0.hash hash ≡ b
    → unended xs ≡ without_hash (unended ys) hash → unended (cond (a && b) (line.0, version) line ∷ xs) ≡ without_hash (unended (line ∷ ys)) hash
unended_step version hash line xs ys true true ne e f more = rw (ne, e, f) more
unended_step version hash line xs ys true false ne e f more = rw (e, f) (ap (λ (es : List Added). line.0 ∷ es) more)
unended_step version hash line xs ys false b ne e f more = rw e more

unended_ended : (version : ℕ) (lines : List Line) (hash : List ℕ) → version < never → unended (ended version lines hash) ≡ without_hash (unended lines) hash
unended_ended version [] hash small = refl
unended_ended version (line ∷ lines) hash small =
    unended_step version hash line (ended version lines hash) lines (line.1 == never) (bytes_eq line.0.hash hash) (not_never version small) refl refl (unended_ended version lines hash small)

pub unended_append : (xs ys : List Line) → unended (xs ++ ys) ≡ unended xs ++ unended ys
unended_append xs ys = ap (map (λ (l : Line). l.0)) (filter-append (λ (l : Line). l.1 == never) xs ys) ∙ map-append {B = Added} (λ (l : Line). l.0) (filter (λ (l : Line). l.1 == never) xs) (filter (λ (l : Line). l.1 == never) ys)

unended_lengthened : (version : ℕ) (lines : List Line) (added : Added) → version < never → unended (lengthened version lines added) ≡ with_added (unended lines) added
unended_lengthened version lines added small =
    unended_append (ended version lines added.hash) ((added, never) ∷ []) ∙ ap (λ (es : List Added). es ++ added ∷ []) (unended_ended version lines added.hash small)

unended_removed : (version : ℕ) (removes : List (List ℕ)) (lines : List Line) → version < never → unended (fold (ended version) lines removes) ≡ fold without_hash (unended lines) removes
unended_removed version [] lines small = refl
unended_removed version (hash ∷ removes) lines small =
    unended_removed version removes (ended version lines hash) small ∙ ap (λ (es : List Added). fold without_hash es removes) (unended_ended version lines hash small)

unended_added : (version : ℕ) (adds : List Added) (lines : List Line) → version < never → unended (fold (lengthened version) lines adds) ≡ fold with_added (unended lines) adds
unended_added version [] lines small = refl
unended_added version (added ∷ adds) lines small =
    unended_added version adds (lengthened version lines added) small ∙ ap (λ (es : List Added). fold with_added es adds) (unended_lengthened version lines added small)

pub unended_after : (version : ℕ) (lines : List Line) (removes : List (List ℕ)) (adds : List Added) → version < never
    → unended (after_lines version lines removes adds) ≡ fold with_added (fold without_hash (unended lines) removes) adds
unended_after version lines removes adds small =
    unended_added version adds (fold (ended version) lines removes) small ∙ ap (λ (es : List Added). fold with_added es adds) (unended_removed version removes lines small)

-- ---- no end is above a version

abbrev pub IsEndBy : ℕ → Line → Type 0
IsEndBy version line = (line.1 ≤ version) ⊎ (line.1 ≡ never)

end_by_line : (v version : ℕ) (line : Line) (b : Bool) → v ≤ version → IsEndBy v line → IsEndBy version (cond b (line.0, version) line)
end_by_line v version line true le h = inl (omega arith)
end_by_line v version line false le (inl h) = inl (omega (arith, h, le))
end_by_line v version line false le (inr h) = inr h

by_ended : (v version : ℕ) (lines : List Line) (hash : List ℕ) → v ≤ version → All (IsEndBy v) lines → All (IsEndBy version) (ended version lines hash)
by_ended v version [] hash le h = All-nil (IsEndBy version)
by_ended v version (line ∷ lines) hash le h =
    All-cons (IsEndBy version) (ended_line hash version line) (ended version lines hash)
    (end_by_line v version line (line.1 == never && bytes_eq line.0.hash hash) le (All-head (IsEndBy v) line lines h))
    (by_ended v version lines hash le (All-tail (IsEndBy v) line lines h))

by_lengthened : (v version : ℕ) (lines : List Line) (added : Added) → v ≤ version → All (IsEndBy v) lines → All (IsEndBy version) (lengthened version lines added)
by_lengthened v version lines added le h = All-push (IsEndBy version) (ended version lines added.hash) (added, never) (by_ended v version lines added.hash le h) (inr refl)

by_removed : (version : ℕ) (removes : List (List ℕ)) (lines : List Line) → All (IsEndBy version) lines → All (IsEndBy version) (fold (ended version) lines removes)
by_removed version [] lines h = h
by_removed version (hash ∷ removes) lines h = by_removed version removes (ended version lines hash) (by_ended version version lines hash (omega arith) h)

by_added : (version : ℕ) (adds : List Added) (lines : List Line) → All (IsEndBy version) lines → All (IsEndBy version) (fold (lengthened version) lines adds)
by_added version [] lines h = h
by_added version (added ∷ adds) lines h = by_added version adds (lengthened version lines added) (by_lengthened version version lines added (omega arith) h)

by_later : (v version : ℕ) (lines : List Line) → v ≤ version → All (IsEndBy v) lines → All (IsEndBy version) lines
by_later v version [] le h = All-nil (IsEndBy version)
by_later v version (line ∷ lines) le h =
    All-cons (IsEndBy version) line lines (end_by_line v version line false le (All-head (IsEndBy v) line lines h)) (by_later v version lines le (All-tail (IsEndBy v) line lines h))

pub by_after : (v version : ℕ) (lines : List Line) (removes : List (List ℕ)) (adds : List Added) → v ≤ version → All (IsEndBy v) lines → All (IsEndBy version) (after_lines version lines removes adds)
by_after v version lines removes adds le h = by_added version adds (fold (ended version) lines removes) (by_removed version removes lines (by_later v version lines le h))

pub by_more : (v version : ℕ) (lines : List Line) → v ≤ version → All (IsEndBy v) lines → All (IsEndBy version) lines
by_more v version lines le h = by_later v version lines le h

end_test : (v : ℕ) (line : Line) → v < never → IsEndBy v line → nat_lt v line.1 ≡ (line.1 == never)
end_test v line small (inl h) = lt_false v line.1 h ∙ sym (not_never line.1 (omega (arith, h, small)))
end_test v line small (inr h) = lt_true v line.1 (omega (arith, h, small)) ∙ sym (is_never line.1 h)

newest_step : (v : ℕ) (line : Line) (lines : List Line) (b : Bool) → nat_lt v line.1 ≡ b → (line.1 == never) ≡ b → standing v lines ≡ unended lines → standing v (line ∷ lines) ≡ unended (line ∷ lines)
newest_step v line lines true e f more = rw (e, f) (ap (λ (es : List Added). line.0 ∷ es) more)
newest_step v line lines false e f more = rw (e, f) more

pub newest_stand : (v : ℕ) (lines : List Line) → v < never → All (IsEndBy v) lines → standing v lines ≡ unended lines
newest_stand v [] small h = refl
newest_stand v (line ∷ lines) small h =
    newest_step v line lines (nat_lt v line.1) refl (sym (end_test v line small (All-head (IsEndBy v) line lines h))) (newest_stand v lines small (All-tail (IsEndBy v) line lines h))

-- ---- ends that are set back

restored_line : (v version : ℕ) (line : Line) (a b : Bool) → v < version → version < never → (line.1 == never) ≡ a → restored_end v (cond (a && b) (line.0, version) line).1 ≡ restored_end v line.1
restored_line v version line true true lt small e =
    let is : line.1 ≡ never = never_is line.1 e in
    let now : nat_lt v version ≡ true = lt_true v version lt in
    let was : nat_lt v line.1 ≡ true = lt_true v line.1 (omega (arith, is, lt, small)) in
    ap (λ t. cond t never version) now ∙ sym (ap (λ t. cond t never line.1) was)
restored_line v version line true false lt small e = refl
restored_line v version line false b lt small e = refl

pub restored_ended : (v version count : ℕ) (lines : List Line) (hash : List ℕ) → v < version → version < never
    → restored v count (map (λ (l : Line). l.1) (ended version lines hash)) ≡ restored v count (map (λ (l : Line). l.1) lines)
restored_ended v version zero lines hash lt small = refl
restored_ended v version (suc count) [] hash lt small = refl
restored_ended v version (suc count) (line ∷ lines) hash lt small =
    ap (λ (e : ℕ). e ∷ restored v count (map (λ (l : Line). l.1) (ended version lines hash))) (restored_line v version line (line.1 == never) (bytes_eq line.0.hash hash) lt small refl)
    ∙ ap (λ (es : List ℕ). restored_end v line.1 ∷ es) (restored_ended v version count lines hash lt small)

pub restored_longer : (v count : ℕ) (ends more : List ℕ) → count ≤ length ends → restored v count (ends ++ more) ≡ restored v count ends
restored_longer v count ends more few = ap (map (restored_end v)) (take-append-le count ends more few)

pub restored_lengthened : (v version count : ℕ) (lines : List Line) (added : Added) → v < version → version < never → count ≤ length lines
    → restored v count (map (λ (l : Line). l.1) (lengthened version lines added)) ≡ restored v count (map (λ (l : Line). l.1) lines)
restored_lengthened v version count lines added lt small few =
    ap (restored v count) (map-append {B = ℕ} (λ (l : Line). l.1) (ended version lines added.hash) ((added, never) ∷ []))
    ∙ restored_longer v count (map (λ (l : Line). l.1) (ended version lines added.hash)) (never ∷ [])
    (omega (arith, few, length-map {B = ℕ} (ended version lines added.hash) (λ (l : Line). l.1), length-ended version lines added.hash))
    ∙ restored_ended v version count lines added.hash lt small

pub restored_removed : (v version count : ℕ) (removes : List (List ℕ)) (lines : List Line) → v < version → version < never
    → restored v count (map (λ (l : Line). l.1) (fold (ended version) lines removes)) ≡ restored v count (map (λ (l : Line). l.1) lines)
restored_removed v version count [] lines lt small = refl
restored_removed v version count (hash ∷ removes) lines lt small = restored_removed v version count removes (ended version lines hash) lt small ∙ restored_ended v version count lines hash lt small

pub restored_added : (v version count : ℕ) (adds : List Added) (lines : List Line) → v < version → version < never → count ≤ length lines
    → restored v count (map (λ (l : Line). l.1) (fold (lengthened version) lines adds)) ≡ restored v count (map (λ (l : Line). l.1) lines)
restored_added v version count [] lines lt small few = refl
restored_added v version count (added ∷ adds) lines lt small few =
    restored_added v version count adds (lengthened version lines added) lt small (omega (arith, few, length-lengthened version lines added))
    ∙ restored_lengthened v version count lines added lt small few

-- where no end is above the version nothing is set back
same_end : (v : ℕ) (line : Line) → v < never → IsEndBy v line → restored_end v line.1 ≡ line.1
same_end v line small (inl h) = ap (λ t. cond t never line.1) (lt_false v line.1 h)
same_end v line small (inr h) = ap (λ t. cond t never line.1) (lt_true v line.1 (omega (arith, h, small))) ∙ sym h

pub restored_same : (v count : ℕ) (lines : List Line) → v < never → length lines ≡ count → All (IsEndBy v) lines → restored v count (map (λ (l : Line). l.1) lines) ≡ map (λ (l : Line). l.1) lines
restored_same v zero [] small long h = refl
restored_same v zero (line ∷ lines) small long h = absurd (omega arith)
restored_same v (suc count) [] small long h = absurd (omega arith)
restored_same v (suc count) (line ∷ lines) small long h =
    ap (λ (e : ℕ). e ∷ restored v count (map (λ (l : Line). l.1) lines)) (same_end v line small (All-head (IsEndBy v) line lines h))
    ∙ ap (λ (es : List ℕ). line.1 ∷ es) (restored_same v count lines small (omega (arith, long)) (All-tail (IsEndBy v) line lines h))

-- one end after the other
pub set_next : (f : ℕ → ℕ) (xs : List ℕ) (i d : ℕ) → i < length xs → set (map f (take i xs) ++ drop i xs) i (f (get_or xs i d)) ≡ map f (take (suc i) xs) ++ drop (suc i) xs
set_next f [] i d h = absurd (omega arith)
set_next f (x ∷ xs) zero d h = refl
set_next f (x ∷ xs) (suc i) d h = ap (λ ys. f x ∷ ys) (set_next f xs i d (omega (arith, h)))

pub get_next : (f : ℕ → ℕ) (xs : List ℕ) (i d : ℕ) → i < length xs → get_or (map f (take i xs) ++ drop i xs) i d ≡ get_or xs i d
get_next f [] i d h = absurd (omega arith)
get_next f (x ∷ xs) zero d h = refl
get_next f (x ∷ xs) (suc i) d h = get_next f xs i d (omega (arith, h))
