-- The rising list of the members of a list: it rises, it has the members, it is the only such list, and it is no longer.
use Rattle.std.proofs.Common.{◌≡◌, ℕ, zero, suc, ◌+◌, ◌≤◌, ◌⊎◌, inl, inr, List, [], ◌∷◌, length, refl, sym, subst, ◌∙◌, arith, length-append}
use Rattle.std.specs.Prelude.{◌↔◌, nat_eq}
use Rattle.std.specs.declared.cmp.Ordering.{Ordering}
use Rattle.std.specs.declared.cmp.Ordering.TheVariants.{Less, Equal, Greater}
use Rattle.std.specs.Ordering.{match_ordering, ordering_reverse}
use Rattle.std.specs.Cmp.Lexicographic.{pointwise, bytes_decides, nat_list_eq_equiv, texts_ties}
use Rattle.std.specs.List.{AllByRecursion, Contains, dedup}
use Rattle.std.specs.List.Retain.{IsFiltered, DiffersFromLast}
use Rattle.std.specs.List.Sorted.{IsStrictlySortedBy, IsPermutation, IsSorted}
use Rattle.std.proofs.lemmas.Cmp.{nat_list_cmp_total, tied_itself}
use Rattle.std.proofs.lemmas.List.Elements.{All-contains, All-from_recursion}
use Rattle.std.proofs.lemmas.List.Filters.{dedup_is}
use Rattle.std.proofs.lemmas.List.Kept.{IsStrictlySortedBy-dedup, Contains-dedup, Contains-from_dedup}
use Rattle.std.proofs.lemmas.List.Sorted.{Contains-permutation, IsPermutation-sym}
use Rattle.std.proofs.lemmas.Map.Keys.{sorted_head, sorted_tail}
use Rattle.std.proofs.lemmas.Map.Lookups.{exact_bytes}
use Rattle.sb_model.specs.Prefixes.{bytes_cmp, IsRising, with_member, set_of, concatenation}

-- ---- the order of byte strings

-- x comes before y
abbrev pub IsBefore : List ℕ → List ℕ → Type 0
IsBefore x y = bytes_cmp x y ≡ Less

before_from_reverse : (o : Ordering) → Greater ≡ ordering_reverse o → o ≡ Less
before_from_reverse Less h = refl
before_from_reverse Equal h = cc h
before_from_reverse Greater h = cc h

pub before_flip : (x y : List ℕ) → bytes_cmp x y ≡ Greater → IsBefore y x
before_flip x y h = before_from_reverse (bytes_cmp y x) (sym h ∙ nat_list_cmp_total.antisymm x y)

pub before_trans : (x y z : List ℕ) → IsBefore x y → IsBefore y z → IsBefore x z
before_trans x y z h k = nat_list_cmp_total.trans x y z h k

pub before_itself : (x : List ℕ) → IsBefore x x → ⊥
before_itself x h = cc (sym h ∙ tied_itself nat_list_cmp_total x)

pub before_both : (x y : List ℕ) → IsBefore x y → IsBefore y x → ⊥
before_both x y h k = before_itself x (before_trans x y x h k)

-- ---- members of a list

pub Contains-here : (x : List ℕ) (xs : List (List ℕ)) → Contains (x ∷ xs) x
Contains-here x xs = (0, omega arith, refl)

pub Contains-there : (y x : List ℕ) (xs : List (List ℕ)) → Contains xs x → Contains (y ∷ xs) x
Contains-there y x xs h = (suc h.0, omega (arith, h.1), h.2)

pub Contains-cases : (y x : List ℕ) (xs : List (List ℕ)) → Contains (y ∷ xs) x → (y ≡ x) ⊎ Contains xs x
Contains-cases y x xs (zero, below, is) = inl is
Contains-cases y x xs (suc k, below, is) = inr (k, omega (arith, below), is)

pub Contains-nil : (x : List ℕ) → Contains [] x → ⊥
Contains-nil x h = omega (arith, h.1)

-- each member of what stands after x comes after it
pub after_head : (x z : List ℕ) (xs : List (List ℕ)) → IsRising (x ∷ xs) → Contains xs z → IsBefore x z
after_head x z xs rising h =
    All-contains (λ y. IsBefore x y) xs z (All-from_recursion (λ y. IsBefore x y) xs (sorted_head bytes_cmp x xs rising)) h

-- ---- one more member

pub rising_cons : (x : List ℕ) (xs : List (List ℕ)) → AllByRecursion (λ y. IsBefore x y) xs → IsRising xs → IsRising (x ∷ xs)
unfolding IsStrictlySortedBy
rising_cons x xs above rising = (above, rising)

pub rising_nil : IsRising []
unfolding IsStrictlySortedBy
rising_nil = tt

-- what comes after y comes after x
all_after : (x y : List ℕ) (ys : List (List ℕ)) → IsBefore x y → AllByRecursion (λ z. IsBefore y z) ys → AllByRecursion (λ z. IsBefore x z) ys
all_after x y [] h above = tt
all_after x y (z ∷ zs) h above = (before_trans x y z h above.0, all_after x y zs h above.1)

all_after-with_member : (y x : List ℕ) (ys : List (List ℕ)) → IsBefore y x → AllByRecursion (λ z. IsBefore y z) ys
    → AllByRecursion (λ z. IsBefore y z) (with_member x ys)
all_after-with_member y x [] h above = (h, tt)
all_after-with_member y x (z ∷ zs) h above = go (bytes_cmp x z) (all_after-with_member y x zs h above.1)
  where
    go : (o : Ordering) → AllByRecursion (λ z. IsBefore y z) (with_member x zs)
        → AllByRecursion (λ z. IsBefore y z) (match_ordering o (x ∷ z ∷ zs) (z ∷ zs) (z ∷ with_member x zs))
    go Less more = (h, above)
    go Equal more = above
    go Greater more = (above.0, more)

pub rising-with_member : (x : List ℕ) (ys : List (List ℕ)) → IsRising ys → IsRising (with_member x ys)
rising-with_member x [] rising = rising_cons x [] tt rising
rising-with_member x (y ∷ ys) rising =
    go (bytes_cmp x y) refl (rising-with_member x ys (sorted_tail bytes_cmp y ys rising))
  where
    go : (o : Ordering) → bytes_cmp x y ≡ o → IsRising (with_member x ys)
        → IsRising (match_ordering o (x ∷ y ∷ ys) (y ∷ ys) (y ∷ with_member x ys))
    go Less is more = rising_cons x (y ∷ ys) (is, all_after x y ys is (sorted_head bytes_cmp y ys rising)) rising
    go Equal is more = rising
    go Greater is more =
        rising_cons y (with_member x ys) (all_after-with_member y x ys (before_flip x y is) (sorted_head bytes_cmp y ys rising)) more

-- x is there, and what was there stays
with_member-new : (x : List ℕ) (ys : List (List ℕ)) → Contains (with_member x ys) x
with_member-new x [] = Contains-here x []
with_member-new x (y ∷ ys) = go (bytes_cmp x y) refl (with_member-new x ys)
  where
    go : (o : Ordering) → bytes_cmp x y ≡ o → Contains (with_member x ys) x
        → Contains (match_ordering o (x ∷ y ∷ ys) (y ∷ ys) (y ∷ with_member x ys)) x
    go Less is more = Contains-here x (y ∷ ys)
    go Equal is more = subst (Contains (y ∷ ys)) (sym (exact_bytes x y is)) (Contains-here y ys)
    go Greater is more = Contains-there y x (with_member x ys) more

with_member-keeps : (x z : List ℕ) (ys : List (List ℕ)) → Contains ys z → Contains (with_member x ys) z
with_member-keeps x z [] h = absurd (Contains-nil z h)
with_member-keeps x z (y ∷ ys) h = go (bytes_cmp x y) (with_member-keeps x z ys)
  where
    go : (o : Ordering) → (Contains ys z → Contains (with_member x ys) z)
        → Contains (match_ordering o (x ∷ y ∷ ys) (y ∷ ys) (y ∷ with_member x ys)) z
    go Less more = Contains-there x z (y ∷ ys) h
    go Equal more = h
    go Greater more = elim (Contains-cases y z ys h) [
      | inl same ↦ subst (Contains (y ∷ with_member x ys)) same (Contains-here y (with_member x ys))
      | inr later ↦ Contains-there y z (with_member x ys) (more later)
    ]

-- nothing else is there
with_member-only : (x z : List ℕ) (ys : List (List ℕ)) → Contains (with_member x ys) z → (x ≡ z) ⊎ Contains ys z
with_member-only x z [] h = Contains-cases x z [] h
with_member-only x z (y ∷ ys) h = go (bytes_cmp x y) h (with_member-only x z ys)
  where
    go : (o : Ordering) → Contains (match_ordering o (x ∷ y ∷ ys) (y ∷ ys) (y ∷ with_member x ys)) z
        → (Contains (with_member x ys) z → (x ≡ z) ⊎ Contains ys z) → (x ≡ z) ⊎ Contains (y ∷ ys) z
    go Less h more = Contains-cases x z (y ∷ ys) h
    go Equal h more = inr h
    go Greater h more = elim (Contains-cases y z (with_member x ys) h) [
      | inl same ↦ inr (subst (Contains (y ∷ ys)) same (Contains-here y ys))
      | inr later ↦ elim (more later) [
        | inl same ↦ inl same
        | inr there ↦ inr (Contains-there y z ys there)
      ]
    ]

-- ---- the rising list of a list

pub rising-set_of : (xs : List (List ℕ)) → IsRising (set_of xs)
rising-set_of [] = rising_nil
rising-set_of (x ∷ xs) = rising-with_member x (set_of xs) (rising-set_of xs)

Contains-set_of : (xs : List (List ℕ)) (z : List ℕ) → Contains xs z → Contains (set_of xs) z
Contains-set_of [] z h = h
Contains-set_of (x ∷ xs) z h = elim (Contains-cases x z xs h) [
  | inl same ↦ subst (Contains (with_member x (set_of xs))) same (with_member-new x (set_of xs))
  | inr later ↦ with_member-keeps x z (set_of xs) (Contains-set_of xs z later)
]

Contains-from_set_of : (xs : List (List ℕ)) (z : List ℕ) → Contains (set_of xs) z → Contains xs z
Contains-from_set_of [] z h = h
Contains-from_set_of (x ∷ xs) z h = elim (with_member-only x z (set_of xs) h) [
  | inl same ↦ subst (Contains (x ∷ xs)) same (Contains-here x xs)
  | inr there ↦ Contains-there x z xs (Contains-from_set_of xs z there)
]

pub members-set_of : (xs : List (List ℕ)) (z : List ℕ) → Contains (set_of xs) z ↔ Contains xs z
members-set_of xs z = (Contains-from_set_of xs z, Contains-set_of xs z)

-- two rising lists with the same members have the same first member, and the same rest
same_head : (x y : List ℕ) (xs ys : List (List ℕ)) → IsRising (x ∷ xs) → IsRising (y ∷ ys) → Contains (y ∷ ys) x → Contains (x ∷ xs) y → x ≡ y
same_head x y xs ys up_x up_y has_x has_y = elim (Contains-cases y x ys has_x) [
  | inl same ↦ sym same
  | inr later_x ↦ elim (Contains-cases x y xs has_y) [
    | inl same ↦ same
    | inr later_y ↦ absurd (before_both x y (after_head x y xs up_x later_y) (after_head y x ys up_y later_x))
  ]
]

same_rest : (x z : List ℕ) (xs ys : List (List ℕ)) → IsRising (x ∷ xs) → Contains xs z → Contains (x ∷ ys) z → Contains ys z
same_rest x z xs ys up h has = elim (Contains-cases x z ys has) [
  | inl same ↦ absurd (before_itself x (subst (IsBefore x) (sym same) (after_head x z xs up h)))
  | inr later ↦ later
]

-- a rising list is determined by its members
pub rising_unique : (xs ys : List (List ℕ)) → IsRising xs → IsRising ys
    → ((z : List ℕ) → Contains xs z → Contains ys z) → ((z : List ℕ) → Contains ys z → Contains xs z) → xs ≡ ys
rising_unique [] [] up_x up_y to from = refl
rising_unique [] (y ∷ ys) up_x up_y to from = absurd (Contains-nil y (from y (Contains-here y ys)))
rising_unique (x ∷ xs) [] up_x up_y to from = absurd (Contains-nil x (to x (Contains-here x xs)))
rising_unique (x ∷ xs) (y ∷ ys) up_x up_y to from =
    let head : x ≡ y = same_head x y xs ys up_x up_y (to x (Contains-here x xs)) (from y (Contains-here y ys)) in
    let rest : xs ≡ ys = rising_unique xs ys (sorted_tail bytes_cmp x xs up_x) (sorted_tail bytes_cmp y ys up_y)
    (λ z h. same_rest x z xs ys up_x h (subst (λ (w : List ℕ). Contains (w ∷ ys) z) (sym head) (to z (Contains-there x z xs h))))
    (λ z h. same_rest y z ys xs up_y h (subst (λ (w : List ℕ). Contains (w ∷ xs) z) head (from z (Contains-there y z ys h)))) in
    λ i. head i ∷ rest i

-- the members determine the rising list
pub set_unique : (xs ys : List (List ℕ)) → ((z : List ℕ) → Contains xs z ↔ Contains ys z) → set_of xs ≡ set_of ys
set_unique xs ys same =
    rising_unique (set_of xs) (set_of ys) (rising-set_of xs) (rising-set_of ys)
    (λ z h. Contains-set_of ys z ((same z).0 (Contains-from_set_of xs z h)))
    (λ z h. Contains-set_of xs z ((same z).1 (Contains-from_set_of ys z h)))

-- a list that is sorted, and then rid of repeats, is the rising list of its members
pub sorted_without_repeats : (xs sorted kept : List (List ℕ)) → IsPermutation xs sorted → IsSorted bytes_cmp sorted
    → IsFiltered (DiffersFromLast (pointwise nat_eq)) [] sorted kept → kept ≡ set_of xs
sorted_without_repeats xs sorted kept moved up filtered =
    let is : kept ≡ dedup (pointwise nat_eq) sorted = dedup_is (pointwise nat_eq) sorted kept filtered in
    let rising : IsRising (dedup (pointwise nat_eq) sorted) = IsStrictlySortedBy-dedup nat_list_cmp_total texts_ties sorted up in
    is ∙ rising_unique (dedup (pointwise nat_eq) sorted) (set_of xs) rising (rising-set_of xs)
    (λ z h. Contains-set_of xs z (Contains-permutation sorted xs z (IsPermutation-sym xs sorted moved) (Contains-from_dedup (pointwise nat_eq) sorted z h)))
    (λ z h. Contains-dedup nat_list_eq_equiv (λ x y same. (bytes_decides x y).0 same) sorted z (Contains-permutation xs sorted z moved (Contains-from_set_of xs z h)))

-- ---- lengths

length-with_member : (x : List ℕ) (ys : List (List ℕ)) → length (with_member x ys) ≤ length ys + 1
length-with_member x [] = omega arith
length-with_member x (y ∷ ys) = go (bytes_cmp x y) (length-with_member x ys)
  where
    go : (o : Ordering) → length (with_member x ys) ≤ length ys + 1 → length (match_ordering o (x ∷ y ∷ ys) (y ∷ ys) (y ∷ with_member x ys)) ≤ length (y ∷ ys) + 1
    go Less more = omega arith
    go Equal more = omega arith
    go Greater more = omega arith

pub length-set_of : (xs : List (List ℕ)) → length (set_of xs) ≤ length xs
length-set_of [] = omega arith
length-set_of (x ∷ xs) = omega (arith, length-with_member x (set_of xs), length-set_of xs)

bytes-with_member : (x : List ℕ) (ys : List (List ℕ)) → length (concatenation (with_member x ys)) ≤ length x + length (concatenation ys)
bytes-with_member x [] = omega (arith, length-append x [])
bytes-with_member x (y ∷ ys) = go (bytes_cmp x y) (bytes-with_member x ys)
  where
    go : (o : Ordering) → length (concatenation (with_member x ys)) ≤ length x + length (concatenation ys)
        → length (concatenation (match_ordering o (x ∷ y ∷ ys) (y ∷ ys) (y ∷ with_member x ys))) ≤ length x + length (concatenation (y ∷ ys))
    go Less more = omega (arith, length-append x (concatenation (y ∷ ys)))
    go Equal more = omega arith
    go Greater more = omega (arith, length-append y (concatenation (with_member x ys)), length-append y (concatenation ys))

pub bytes-set_of : (xs : List (List ℕ)) → length (concatenation (set_of xs)) ≤ length (concatenation xs)
bytes-set_of [] = omega arith
bytes-set_of (x ∷ xs) =
    omega (arith, bytes-with_member x (set_of xs), bytes-set_of xs, length-append x (concatenation xs))
