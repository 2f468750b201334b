-- How many bytes the prefixes of full hashes have, each counted once.
use Rattle.std.proofs.Common.{◌≡◌, ℕ, ◌+◌, ◌*◌, ◌≤◌, List, [], ◌∷◌, ◌++◌, Bool, true, false, ◌||◌, cond, length, map, refl, sym, ap, ◌∙◌, arith, Ordering, length-append, zero-add}
use Rattle.std.specs.declared.cmp.Ordering.TheVariants.{Less, Equal, Greater}
use Rattle.std.specs.Cmp.Lexicographic.{nat_list_cmp_total}
use Rattle.std.specs.List.{list_any, AllByRecursion}
use Rattle.std.specs.List.Sorted.{IsStrictlySortedBy}
use Rattle.std.specs.Ordering.{match_ordering, ordering_reverse, is_eq}
use Rattle.std.specs.Str.{bytes_eq}
use Rattle.std.specs.Prelude.{All}
use Rattle.std.proofs.lemmas.Map.Text.{is_eq-slice_cmp}
use Rattle.std.proofs.lemmas.List.{append-nil}
use Rattle.std.proofs.lemmas.List.Elements.{All-head, All-tail}
use Rattle.sb_model.specs.declared.history.Added.{Added}
use Rattle.sb_model.specs.History.{prefix_of}
use Rattle.sb_model.specs.Prefixes.{bytes_cmp, IsRising, with_member, set_of, concatenation}
use Rattle.list_versions.specs.Limits.{prefix_bytes}
use Rattle.list_versions.specs.Live.{IsPublishable}
use Rattle.list_versions.proofs.Finding.{same_bytes, bytes_are_same}

-- whether some bytes are a member
abbrev pub has_member : List (List ℕ) → List ℕ → Bool
has_member members x = list_any (λ member. bytes_eq member x) members

abbrev pub is_published_in : List Added → List ℕ → Bool
is_published_in entries prefix = list_any (λ entry. bytes_eq (prefix_of entry) prefix) entries

-- ---- members in order

eq_of : (x y : List ℕ) (o : Ordering) → bytes_cmp x y ≡ o → bytes_eq y x ≡ is_eq (ordering_reverse o)
eq_of x y o h = sym (is_eq-slice_cmp y x) ∙ ap is_eq (nat_list_cmp_total.antisymm y x ∙ ap ordering_reverse h)

lifted : (x y : List ℕ) (ys : List (List ℕ)) → bytes_cmp x y ≡ Less → AllByRecursion (λ z. bytes_cmp y z ≡ Less) ys → AllByRecursion (λ z. bytes_cmp x z ≡ Less) ys
lifted x y [] h a = tt
lifted x y (z ∷ zs) h a = (nat_list_cmp_total.trans x y z h a.0, lifted x y zs h a.1)

none_above : (x : List ℕ) (ys : List (List ℕ)) → AllByRecursion (λ z. bytes_cmp x z ≡ Less) ys → has_member ys x ≡ false
none_above x [] a = refl
none_above x (z ∷ zs) a = rw (eq_of x z Less a.0) (none_above x zs a.1)

all_with_at : (y x z : List ℕ) (zs : List (List ℕ)) (o : Ordering) → bytes_cmp y x ≡ Less → AllByRecursion (λ w. bytes_cmp y w ≡ Less) (z ∷ zs) → AllByRecursion (λ w. bytes_cmp y w ≡ Less) (with_member x zs)
    → AllByRecursion (λ w. bytes_cmp y w ≡ Less) (match_ordering o (x ∷ z ∷ zs) (z ∷ zs) (z ∷ with_member x zs))
all_with_at y x z zs Less h a more = (h, a)
all_with_at y x z zs Equal h a more = a
all_with_at y x z zs Greater h a more = (a.0, more)

all_with : (y x : List ℕ) (ys : List (List ℕ)) → bytes_cmp y x ≡ Less → AllByRecursion (λ z. bytes_cmp y z ≡ Less) ys → AllByRecursion (λ z. bytes_cmp y z ≡ Less) (with_member x ys)
all_with y x [] h a = (h, tt)
all_with y x (z ∷ zs) h a = all_with_at y x z zs (bytes_cmp x z) h a (all_with y x zs h a.1)

rising_at : (x y : List ℕ) (ys : List (List ℕ)) (o : Ordering) → bytes_cmp x y ≡ o → IsRising (y ∷ ys) → IsRising (with_member x ys) → IsRising (match_ordering o (x ∷ y ∷ ys) (y ∷ ys) (y ∷ with_member x ys))
unfolding IsStrictlySortedBy
rising_at x y ys Less h r more = ((h, lifted x y ys h r.0), r)
rising_at x y ys Equal h r more = r
rising_at x y ys Greater h r more = (all_with y x ys (nat_list_cmp_total.antisymm y x ∙ ap ordering_reverse h) r.0, more)

rising_with : (x : List ℕ) (ys : List (List ℕ)) → IsRising ys → IsRising (with_member x ys)
unfolding IsStrictlySortedBy
rising_with x [] r = (tt, tt)
rising_with x (y ∷ ys) r = rising_at x y ys (bytes_cmp x y) refl r (rising_with x ys r.1)

pub rising_set : (xs : List (List ℕ)) → IsRising (set_of xs)
unfolding IsStrictlySortedBy
rising_set [] = tt
rising_set (x ∷ xs) = rising_with x (set_of xs) (rising_set xs)

-- ---- what a member adds

or_twice : (b c : Bool) → (b || c) ≡ (b || (b || c))
or_twice true c = refl
or_twice false c = refl

or_swap : (a b c : Bool) → (a || (b || c)) ≡ (b || (a || c))
or_swap true true c = refl
or_swap true false c = refl
or_swap false true c = refl
or_swap false false c = refl

has_at : (x y q : List ℕ) (ys : List (List ℕ)) (o : Ordering) → bytes_cmp x y ≡ o → has_member (with_member x ys) q ≡ (bytes_eq x q || has_member ys q)
    → has_member (match_ordering o (x ∷ y ∷ ys) (y ∷ ys) (y ∷ with_member x ys)) q ≡ (bytes_eq x q || (bytes_eq y q || has_member ys q))
has_at x y q ys Less h more = refl
has_at x y q ys Equal h more =
    let same : y ≡ x = same_bytes y x (eq_of x y Equal h) in
    rw same (or_twice (bytes_eq x q) (has_member ys q))
has_at x y q ys Greater h more = rw more (or_swap (bytes_eq y q) (bytes_eq x q) (has_member ys q))

has_with : (x q : List ℕ) (ys : List (List ℕ)) → has_member (with_member x ys) q ≡ (bytes_eq x q || has_member ys q)
has_with x q [] = refl
has_with x q (y ∷ ys) = has_at x y q ys (bytes_cmp x y) refl (has_with x q ys)

pub has_set : (q : List ℕ) (xs : List (List ℕ)) → has_member (set_of xs) q ≡ has_member xs q
has_set q [] = refl
has_set q (x ∷ xs) = has_with x q (set_of xs) ∙ ap (λ b. bytes_eq x q || b) (has_set q xs)

pub has_map : (q : List ℕ) (entries : List Added) → has_member (map prefix_of entries) q ≡ is_published_in entries q
has_map q [] = refl
has_map q (entry ∷ entries) = ap (λ b. bytes_eq (prefix_of entry) q || b) (has_map q entries)

counted_at : (x y : List ℕ) (ys : List (List ℕ)) (o : Ordering) → bytes_cmp x y ≡ o → AllByRecursion (λ z. bytes_cmp y z ≡ Less) ys
    → length (concatenation (with_member x ys)) ≡ cond (has_member ys x) 0 (length x) + length (concatenation ys)
    → length (concatenation (match_ordering o (x ∷ y ∷ ys) (y ∷ ys) (y ∷ with_member x ys))) ≡ cond (bytes_eq y x || has_member ys x) 0 (length x) + length (concatenation (y ∷ ys))
counted_at x y ys Less h r more = rw (eq_of x y Less h, none_above x ys (lifted x y ys h r)) (length-append x (y ++ concatenation ys))
counted_at x y ys Equal h r more = rw (eq_of x y Equal h) (sym (zero-add _))
counted_at x y ys Greater h r more =
    rw (eq_of x y Greater h) (omega (arith, more, length-append y (concatenation (with_member x ys)), length-append y (concatenation ys)))

counted_with : (x : List ℕ) (ys : List (List ℕ)) → IsRising ys → length (concatenation (with_member x ys)) ≡ cond (has_member ys x) 0 (length x) + length (concatenation ys)
unfolding IsStrictlySortedBy
counted_with x [] r = length-append x []
counted_with x (y ∷ ys) r = counted_at x y ys (bytes_cmp x y) refl r.0 (counted_with x ys r.1)

-- each prefix is counted where none after it is the same
pub prefix_bytes-cons : (entry : Added) (entries : List Added) → prefix_bytes (entry ∷ entries) ≡ cond (is_published_in entries (prefix_of entry)) 0 (length (prefix_of entry)) + prefix_bytes entries
prefix_bytes-cons entry entries =
    counted_with (prefix_of entry) (set_of (map prefix_of entries)) (rising_set (map prefix_of entries))
    ∙ ap (λ b. cond b 0 (length (prefix_of entry)) + prefix_bytes entries) (has_set (prefix_of entry) (map prefix_of entries) ∙ has_map (prefix_of entry) entries)

pub cond_le : (b : Bool) (n : ℕ) → cond b 0 n ≤ n
cond_le true n = omega arith
cond_le false n = omega arith

-- a prefix has no more than 32 bytes of a hash of 32
pub prefix_bytes-le : (entries : List Added) → All IsPublishable entries → prefix_bytes entries ≤ 32 * length entries
prefix_bytes-le [] a = omega arith
prefix_bytes-le (entry ∷ entries) a =
    let h = prefix_bytes-cons entry entries in
    let more = prefix_bytes-le entries (All-tail IsPublishable entry entries a) in
    let short : length (prefix_of entry) ≤ 32 = (All-head IsPublishable entry entries a).short in
    omega (arith, h, more, short, cond_le (is_published_in entries (prefix_of entry)) (length (prefix_of entry)))

-- ---- a full hash anywhere in a list

published-insert : (front : List Added) (entry : Added) (back : List Added) (prefix : List ℕ)
    → is_published_in (front ++ entry ∷ back) prefix ≡ (bytes_eq (prefix_of entry) prefix || is_published_in (front ++ back) prefix)
published-insert [] entry back prefix = refl
published-insert (x ∷ front) entry back prefix =
    ap (λ b. bytes_eq (prefix_of x) prefix || b) (published-insert front entry back prefix)
    ∙ or_swap (bytes_eq (prefix_of x) prefix) (bytes_eq (prefix_of entry) prefix) (is_published_in (front ++ back) prefix)

eq_swap : (a b : List ℕ) (t u : Bool) → bytes_eq a b ≡ t → bytes_eq b a ≡ u → t ≡ u
eq_swap a b true true h k = refl
eq_swap a b false false h k = refl
eq_swap a b true false h k = let same : a ≡ b = same_bytes a b h in sym (bytes_are_same b) ∙ ap (λ x. bytes_eq b x) (sym same) ∙ k
eq_swap a b false true h k = let same : b ≡ a = same_bytes b a k in sym (sym (bytes_are_same a) ∙ ap (λ x. bytes_eq a x) (sym same) ∙ h)

swap_sums : (a b n : ℕ) → a + (b + n) ≡ b + (a + n)
swap_sums a b n = omega arith

insert_at : (rest : List Added) (x y : List ℕ) (b : Bool) → (b ≡ true → x ≡ y) → (n : ℕ)
    → cond (b || is_published_in rest x) 0 (length x) + (cond (is_published_in rest y) 0 (length y) + n)
    ≡ cond (b || is_published_in rest y) 0 (length y) + (cond (is_published_in rest x) 0 (length x) + n)
insert_at rest x y true h n = rw (h refl) refl
insert_at rest x y false h n = swap_sums _ _ n

pub prefix_bytes-insert : (front : List Added) (entry : Added) (back : List Added)
    → prefix_bytes (front ++ entry ∷ back) ≡ cond (is_published_in (front ++ back) (prefix_of entry)) 0 (length (prefix_of entry)) + prefix_bytes (front ++ back)
prefix_bytes-insert [] entry back = prefix_bytes-cons entry back
prefix_bytes-insert (x ∷ front) entry back =
    let p = prefix_of x in
    let q = prefix_of entry in
    let rest = front ++ back in
    prefix_bytes-cons x (front ++ entry ∷ back)
    ∙ ap (λ b. cond b 0 (length p) + prefix_bytes (front ++ entry ∷ back)) (published-insert front entry back p)
    ∙ ap (λ n. cond (bytes_eq q p || is_published_in rest p) 0 (length p) + n) (prefix_bytes-insert front entry back)
    ∙ insert_at rest p q (bytes_eq q p) (λ e. sym (same_bytes q p e)) (prefix_bytes rest)
    ∙ ap (λ b. cond (b || is_published_in rest q) 0 (length q) + (cond (is_published_in rest p) 0 (length p) + prefix_bytes rest)) (eq_swap q p _ _ refl refl)
    ∙ ap (λ n. cond (bytes_eq p q || is_published_in rest q) 0 (length q) + n) (sym (prefix_bytes-cons x rest))

pub prefix_bytes-push : (entries : List Added) (entry : Added)
    → prefix_bytes (entries ++ entry ∷ []) ≡ prefix_bytes entries + cond (is_published_in entries (prefix_of entry)) 0 (length (prefix_of entry))
prefix_bytes-push entries entry =
    prefix_bytes-insert entries entry []
    ∙ ap (λ es. cond (is_published_in es (prefix_of entry)) 0 (length (prefix_of entry)) + prefix_bytes es) (append-nil entries)
    ∙ swapped _ (prefix_bytes entries)
  where
    swapped : (a b : ℕ) → a + b ≡ b + a
    swapped a b = omega arith
