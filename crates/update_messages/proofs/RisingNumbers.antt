-- The numbers that an update carries rise: those of prefixes of four bytes, and the places that a newer set lacks.
use Rattle.std.proofs.Common.{◌≡◌, ℕ, zero, suc, ◌+◌, ◌<◌, ◌≤◌, ◌⊎◌, inl, inr, Bool, true, false, cond, not, List, [], ◌∷◌, length, map, get_or, refl, sym, ap, subst, arith, add-one}
use Rattle.std.specs.Prelude.{◌==◌, nat_lt, filter, Contains}
use Rattle.std.specs.Int.{w32, from_le_bytes}
use Rattle.std.specs.List.{AllByRecursion, enumerate_from}
use Rattle.std.specs.List.Sorted.{IsStrictlyIncreasing}
use Rattle.std.proofs.lemmas.List.Elements.{All-from_recursion}
use Rattle.std.proofs.lemmas.Bool.{cases_lt, ltb-true, ltb-false, eqb-true, eqb-false}
use Rattle.sb_model.specs.Difference.{has_member, removed_places}
use Rattle.update_messages.specs.Answer.{with_number, numbers_of}
use Rattle.update_messages.specs.Rising.{AreRisingPlaces, AreRisingNumbers}

-- ---- what is in a list, by recursion on it

abbrev pub In : {X : Type 0} → X → List X → Type 0
In x [] = ⊥
In x (y ∷ ys) = (y ≡ x) ⊎ In x ys

contains_in : {X : Type 0} (x : X) (xs : List X) → In x xs → Contains xs x
contains_in x [] h = absurd h
contains_in x (y ∷ ys) (inl e) = (0, omega arith, e)
contains_in x (y ∷ ys) (inr h) = let c : Contains ys x = contains_in x ys h in (suc c.0, omega (arith, c.1), c.2)

in_at : {X : Type 0} (x : X) (xs : List X) (k : ℕ) → k < length xs → get_or xs k x ≡ x → In x xs
in_at x [] k below e = absurd (omega arith)
in_at x (y ∷ ys) zero below e = inl e
in_at x (y ∷ ys) (suc k) below e = inr (in_at x ys k (omega (arith, below)) e)

in_contained : {X : Type 0} (x : X) (xs : List X) → Contains xs x → In x xs
in_contained x xs c = in_at x xs c.0 c.1 c.2

in_map : {X Y : Type 0} (f : X → Y) (x : X) (xs : List X) → In x xs → In (f x) (map f xs)
in_map f x [] h = absurd h
in_map f x (y ∷ ys) (inl e) = inl (ap f e)
in_map f x (y ∷ ys) (inr h) = inr (in_map f x ys h)

from_map : {X Y : Type 0} (f : X → Y) (y : Y) (xs : List X) → In y (map f xs) → (x : X) × In x xs × (f x ≡ y)
from_map f y [] h = absurd h
from_map f y (x ∷ xs) (inl e) = (x, inl refl, e)
from_map f y (x ∷ xs) (inr h) = let found = from_map f y xs h in (found.0, inr found.1, found.2)

of_each : {X : Type 0} (P : X → Type 0) (x : X) (xs : List X) → AllByRecursion P xs → In x xs → P x
of_each P x [] all h = absurd h
of_each P x (y ∷ ys) all (inl e) = subst P e all.0
of_each P x (y ∷ ys) all (inr h) = of_each P x ys all.1 h

each_in : {X : Type 0} (P : X → Type 0) (xs : List X) → ((x : X) → In x xs → P x) → AllByRecursion P xs
each_in P [] each = tt
each_in P (x ∷ xs) each = (each x (inl refl), each_in P xs (λ y h. each y (inr h)))

-- ---- numbers that rise, by recursion on them

abbrev pub Rises : List ℕ → Type 0
Rises [] = Unit {0}
Rises (x ∷ xs) = AllByRecursion (λ y. x < y) xs × Rises xs

above_at : (x : ℕ) (xs : List ℕ) (k : ℕ) → AllByRecursion (λ y. x < y) xs → k < length xs → x < get_or xs k 0
above_at x [] k above below = absurd (omega arith)
above_at x (y ∷ ys) zero above below = above.0
above_at x (y ∷ ys) (suc k) above below = above_at x ys k above.1 (omega (arith, below))

increasing : (xs : List ℕ) → Rises xs → IsStrictlyIncreasing xs
increasing [] up k below = absurd (omega arith)
increasing (x ∷ xs) up zero below = above_at x xs 0 up.0 (omega (arith, below))
increasing (x ∷ xs) up (suc k) below =
    let before : get_or xs k 0 < get_or xs (suc k) 0 = rw add-one at (increasing xs up.1 k (omega (arith, below))) in
    rw add-one before

-- ---- places

abbrev numbered : (ℕ × List ℕ → Bool) → ℕ → List (List ℕ) → List ℕ
numbered test n set = map (λ member. member.0) (filter test (enumerate_from n set))

module _ (test : ℕ × List ℕ → Bool) where
  numbered_within : (n : ℕ) (set : List (List ℕ)) → AllByRecursion (λ place. (n ≤ place) × (place < n + length set)) (numbered test n set)
  numbered_within n [] = tt
  numbered_within n (x ∷ xs) = go (test (n, x)) (numbered_within (n + 1) xs)
    where
      later : AllByRecursion (λ place. (n + 1 ≤ place) × (place < n + 1 + length xs)) (numbered test (n + 1) xs)
          → AllByRecursion (λ place. (n ≤ place) × (place < n + suc (length xs))) (numbered test (n + 1) xs)
      later all = each_in (λ place. (n ≤ place) × (place < n + suc (length xs))) (numbered test (n + 1) xs) (λ place h.
          let at : (n + 1 ≤ place) × (place < n + 1 + length xs) = of_each (λ p. (n + 1 ≤ p) × (p < n + 1 + length xs)) place (numbered test (n + 1) xs) all h in
          (omega (arith, at.0), omega (arith, at.1)))

      go : (b : Bool) → AllByRecursion (λ place. (n + 1 ≤ place) × (place < n + 1 + length xs)) (numbered test (n + 1) xs)
          → AllByRecursion (λ place. (n ≤ place) × (place < n + suc (length xs)))
          (map (λ (member : ℕ × List ℕ). member.0) (cond b ((n, x) ∷ filter test (enumerate_from (n + 1) xs)) (filter test (enumerate_from (n + 1) xs))))
      go true all = ((omega arith, omega arith), later all)
      go false all = later all

  numbered_rises : (n : ℕ) (set : List (List ℕ)) → Rises (numbered test n set)
  numbered_rises n [] = tt
  numbered_rises n (x ∷ xs) = go (test (n, x)) above (numbered_rises (n + 1) xs)
    where
      above : AllByRecursion (λ place. n < place) (numbered test (n + 1) xs)
      above = each_in (λ place. n < place) (numbered test (n + 1) xs) (λ place h.
          let at : (n + 1 ≤ place) × (place < n + 1 + length xs) = of_each (λ p. (n + 1 ≤ p) × (p < n + 1 + length xs)) place (numbered test (n + 1) xs) (numbered_within (n + 1) xs) h in
          omega (arith, at.0))

      go : (b : Bool) → AllByRecursion (λ place. n < place) (numbered test (n + 1) xs) → Rises (numbered test (n + 1) xs)
          → Rises (map (λ (member : ℕ × List ℕ). member.0) (cond b ((n, x) ∷ filter test (enumerate_from (n + 1) xs)) (filter test (enumerate_from (n + 1) xs))))
      go true first more = (first, more)
      go false first more = more

  numbered_few : (n : ℕ) (set : List (List ℕ)) → length (numbered test n set) ≤ length set
  numbered_few n [] = omega arith
  numbered_few n (x ∷ xs) = go (test (n, x)) (numbered_few (n + 1) xs)
    where
      go : (b : Bool) → length (numbered test (n + 1) xs) ≤ length xs
          → length (map (λ (member : ℕ × List ℕ). member.0) (cond b ((n, x) ∷ filter test (enumerate_from (n + 1) xs)) (filter test (enumerate_from (n + 1) xs)))) ≤ suc (length xs)
      go true more = omega (arith, more)
      go false more = omega (arith, more)

removed_rise : (old newer : List (List ℕ)) → Rises (removed_places old newer)
removed_rise old newer = numbered_rises (λ member. not (has_member newer member.1)) 0 old

removed_few : (old newer : List (List ℕ)) → length (removed_places old newer) ≤ length old
removed_few old newer = numbered_few (λ member. not (has_member newer member.1)) 0 old

removed_below : (old newer : List (List ℕ)) → AllByRecursion (λ place. place < length old) (removed_places old newer)
removed_below old newer = each_in (λ place. place < length old) (removed_places old newer) (λ place h.
    let at : (0 ≤ place) × (place < 0 + length old) =
    of_each (λ p. (0 ≤ p) × (p < 0 + length old)) place (removed_places old newer) (numbered_within (λ member. not (has_member newer member.1)) 0 old) h in
    omega (arith, at.1))

-- ---- one more number

here_with_number : (n : ℕ) (ms : List ℕ) → In n (with_number n ms)
here_with_number n [] = inl refl
here_with_number n (m ∷ ms) = go (nat_lt n m) (n == m) refl (here_with_number n ms)
  where
    go : (b c : Bool) → (n == m) ≡ c → In n (with_number n ms) → In n (cond b (n ∷ m ∷ ms) (cond c (m ∷ ms) (m ∷ with_number n ms)))
    go true c e more = inl refl
    go false true e more = inl (sym (eqb-true n m e))
    go false false e more = inr more

in_with_number : (x n : ℕ) (ms : List ℕ) → In x ms → In x (with_number n ms)
in_with_number x n [] h = absurd h
in_with_number x n (m ∷ ms) h = go (nat_lt n m) (n == m) h (in_with_number x n ms)
  where
    go : (b c : Bool) → (m ≡ x) ⊎ In x ms → (In x ms → In x (with_number n ms)) → In x (cond b (n ∷ m ∷ ms) (cond c (m ∷ ms) (m ∷ with_number n ms)))
    go true c k more = inr k
    go false true k more = k
    go false false (inl e) more = inl e
    go false false (inr k) more = inr (more k)

from_with_number : (x n : ℕ) (ms : List ℕ) → In x (with_number n ms) → (n ≡ x) ⊎ In x ms
from_with_number x n [] h = h
from_with_number x n (m ∷ ms) h = go (nat_lt n m) (n == m) h (from_with_number x n ms)
  where
    go : (b c : Bool) → In x (cond b (n ∷ m ∷ ms) (cond c (m ∷ ms) (m ∷ with_number n ms))) → (In x (with_number n ms) → (n ≡ x) ⊎ In x ms)
        → (n ≡ x) ⊎ ((m ≡ x) ⊎ In x ms)
    go true c k more = k
    go false true k more = inr k
    go false false (inl e) more = inr (inl e)
    go false false (inr k) more = elim (more k) [ inl e ↦ inl e | inr l ↦ inr (inr l) ]

above_after : (m n : ℕ) (ms : List ℕ) → m < n → AllByRecursion (λ y. n < y) ms → AllByRecursion (λ y. m < y) ms
above_after m n ms lt above = each_in (λ y. m < y) ms (λ y h. let up : n < y = of_each (λ z. n < z) y ms above h in omega arith)

rises_with_number : (n : ℕ) (ms : List ℕ) → Rises ms → Rises (with_number n ms)
rises_with_number n [] up = (tt, tt)
rises_with_number n (m ∷ ms) up = go (nat_lt n m) (n == m) refl refl (rises_with_number n ms up.1)
  where
    above : (m ≡ n → ⊥) → m ≤ n → AllByRecursion (λ y. m < y) (with_number n ms)
    above ne le = each_in (λ y. m < y) (with_number n ms) (λ y h. elim (from_with_number y n ms h) [
      | inl e ↦ elim (cases_lt m y) [ inl lt ↦ lt | inr ge ↦ absurd (ne (omega arith)) ]
      | inr k ↦ of_each (λ z. m < z) y ms up.0 k
    ])

    go : (b c : Bool) → nat_lt n m ≡ b → (n == m) ≡ c → Rises (with_number n ms) → Rises (cond b (n ∷ m ∷ ms) (cond c (m ∷ ms) (m ∷ with_number n ms)))
    go true c is e more = let lt : n < m = ltb-true n m is in ((lt, above_after n m ms lt up.0), up)
    go false true is e more = up
    go false false is e more = (above (λ same. eqb-false n m e (sym same)) (ltb-false n m is), more)

few_with_number : (n : ℕ) (ms : List ℕ) → length (with_number n ms) ≤ suc (length ms)
few_with_number n [] = omega arith
few_with_number n (m ∷ ms) = go (nat_lt n m) (n == m) (few_with_number n ms)
  where
    go : (b c : Bool) → length (with_number n ms) ≤ suc (length ms) → length (cond b (n ∷ m ∷ ms) (cond c (m ∷ ms) (m ∷ with_number n ms))) ≤ suc (suc (length ms))
    go true c more = omega arith
    go false true more = omega arith
    go false false more = omega (arith, more)

-- ---- the numbers of members

in_numbers : (m : List ℕ) (ms : List (List ℕ)) → In m ms → In (from_le_bytes w32 m) (numbers_of ms)
in_numbers m [] h = absurd h
in_numbers m (x ∷ xs) (inl e) =
    subst (λ (y : List ℕ). In (from_le_bytes w32 y) (with_number (from_le_bytes w32 x) (numbers_of xs))) e (here_with_number (from_le_bytes w32 x) (numbers_of xs))
in_numbers m (x ∷ xs) (inr h) = in_with_number (from_le_bytes w32 m) (from_le_bytes w32 x) (numbers_of xs) (in_numbers m xs h)

from_numbers : (n : ℕ) (ms : List (List ℕ)) → In n (numbers_of ms) → (m : List ℕ) × In m ms × (from_le_bytes w32 m ≡ n)
from_numbers n [] h = absurd h
from_numbers n (x ∷ xs) h = elim (from_with_number n (from_le_bytes w32 x) (numbers_of xs) h) [
  | inl e ↦ (x, inl refl, e)
  | inr k ↦ let found = from_numbers n xs k in (found.0, inr found.1, found.2)
]

numbers_rise : (ms : List (List ℕ)) → Rises (numbers_of ms)
numbers_rise [] = tt
numbers_rise (x ∷ xs) = rises_with_number (from_le_bytes w32 x) (numbers_of xs) (numbers_rise xs)

numbers_few : (ms : List (List ℕ)) → length (numbers_of ms) ≤ length ms
numbers_few [] = omega arith
numbers_few (x ∷ xs) = omega (arith, few_with_number (from_le_bytes w32 x) (numbers_of xs), numbers_few xs)

-- ---- both in the words of specs

pub places_rise : (old newer : List (List ℕ)) → AreRisingPlaces (length old) (removed_places old newer)
places_rise old newer = record {
  rising = increasing (removed_places old newer) (removed_rise old newer);
  few = removed_few old newer;
  within = All-from_recursion (λ place. place < length old) (removed_places old newer) (removed_below old newer);
}

pub members_rise : (members : List (List ℕ)) → AreRisingNumbers members (numbers_of members)
members_rise members = record {
  rising = increasing (numbers_of members) (numbers_rise members);
  few = numbers_few members;
  same = λ n. (
    (λ h. let found = from_numbers n members (in_contained n (numbers_of members) h) in
        contains_in n (map (from_le_bytes w32) members) (subst (λ k. In k (map (from_le_bytes w32) members)) found.2 (in_map (from_le_bytes w32) found.0 members found.1))),
    (λ h. let found = from_map (from_le_bytes w32) n members (in_contained n (map (from_le_bytes w32) members) h) in
        contains_in n (numbers_of members) (subst (λ k. In k (numbers_of members)) found.2 (in_numbers found.0 members found.1))),
  );
}
