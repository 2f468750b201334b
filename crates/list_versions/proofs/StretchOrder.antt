-- Stretches in the order of their prefixes.
use Rattle.std.proofs.Common.{◌≡◌, ◌⊎◌, ◌∙◌, ℕ, zero, suc, ◌<◌, ◌≤◌, false, List, [], ◌∷◌, length, get_or, nat_cmp, is_lt, sym, ap, inl, inr, arith}
use Rattle.std.specs.Cmp.{IsTotalOrder}
use Rattle.std.specs.List.Sorted.{IsSorted}
use Rattle.std.specs.Ordering.{ordering_then}
use Rattle.std.specs.declared.cmp.Ordering.{Ordering}
use Rattle.std.specs.declared.cmp.Ordering.TheVariants.{Less, Equal}
use Rattle.std.proofs.lemmas.Bool.{cases_lt}
use Rattle.std.proofs.lemmas.Bool.Decides.{nat_tests}
use Rattle.std.proofs.lemmas.Cmp.{nat_cmp_total, on_total, then_total}
use Rattle.std.proofs.lemmas.List.Sorted.{ranks_by, sorted_far}
use Rattle.list_versions.specs.declared.stretch.Stretch.{Stretch}
use Rattle.list_versions.specs.Stretches.{AreInOrder}

-- the order of the parts, one after the other
abbrev pub parts_cmp : Stretch → Stretch → Ordering
parts_cmp a b = ordering_then (nat_cmp a.head b.head) (ordering_then (nat_cmp a.from b.from) (nat_cmp a.until b.until))

parts_total : IsTotalOrder parts_cmp
parts_total =
    then_total (on_total (λ (s : Stretch). s.head) nat_cmp_total)
    (then_total (on_total (λ (s : Stretch). s.from) nat_cmp_total) (on_total (λ (s : Stretch). s.until) nat_cmp_total))

less_from_lt : (m n : ℕ) → m < n → nat_cmp m n ≡ Less
less_from_lt m n h = grind (arith, nat_tests)

equal_from_eq : (m n : ℕ) → m ≡ n → nat_cmp m n ≡ Equal
equal_from_eq m n h = grind (arith, nat_tests)

-- what does not come first is no lower
no_lower : (m n : ℕ) (o : Ordering) → is_lt (ordering_then (nat_cmp m n) o) ≡ false → n ≤ m
no_lower m n o h = elim (cases_lt m n) [
  | inl lt ↦ absurd (let first = ap (λ p. is_lt (ordering_then p o)) (sym (less_from_lt m n lt)) ∙ h in cc)
  | inr le ↦ le
]

in_front : (a b c d : ℕ) (o : Ordering) → is_lt (ordering_then (nat_cmp a b) (ordering_then (nat_cmp c d) o)) ≡ false → (b < a) ⊎ ((b ≡ a) × (d ≤ c))
in_front a b c d o h = elim (cases_lt b a) [
  | inl lt ↦ inl lt
  | inr le ↦ (
      let same : a ≡ b = omega (arith, le, no_lower a b (ordering_then (nat_cmp c d) o) h) in
      let rest = ap (λ p. is_lt (ordering_then p (ordering_then (nat_cmp c d) o))) (sym (equal_from_eq a b same)) ∙ h in
      inr (sym same, no_lower c d o rest))
]

-- Each stands in front of those behind it, if none of these comes first.
in_order : (xs : List Stretch) → ((i j : ℕ) (d : Stretch) → i ≤ j → j < length xs → is_lt (parts_cmp (get_or xs j d) (get_or xs i d)) ≡ false) → AreInOrder xs
in_order [] h = tt
in_order (x ∷ xs) h = (
  λ k d lt. in_front (get_or xs k d).head x.head (get_or xs k d).from x.from (nat_cmp (get_or xs k d).until x.until) (h zero (suc k) d (omega arith) (omega (arith, lt))),
  in_order xs (λ i j d le lt. h (suc i) (suc j) d (omega (arith, le)) (omega (arith, lt))),
)

pub sorted_in_order : (xs : List Stretch) → IsSorted parts_cmp xs → AreInOrder xs
sorted_in_order xs sorted = in_order xs (λ i j d le lt. sorted_far (λ (a b : Stretch). is_lt (parts_cmp a b)) (ranks_by parts_total (λ (s : Stretch). s)) xs sorted i j d le lt)
