-- The place of a prefix in a set.
use Rattle.std.proofs.Common.{◌≡◌, ◌≢◌, ℕ, ◌+◌, ◌<◌, inl, inr, true, false, List, [], length, take, get_or, Some, refl, sym, ap, subst, ◌∙◌, arith}
use Rattle.std.specs.Prelude.{◌==◌, Contains, slice_get}
use Rattle.std.specs.Ordering.{ordering_index}
use Rattle.std.specs.declared.cmp.Ordering.{Ordering}
use Rattle.std.specs.declared.cmp.Ordering.TheVariants.{Less, Equal, Greater}
use Rattle.std.proofs.lemmas.Bool.{cases_lt, false≢true}
use Rattle.std.proofs.lemmas.List.{get_or-take, get_or_default, length-take}
use Rattle.std.proofs.lemmas.Option.{get_or_from_slice_get, slice_get_within}
use Rattle.sb_model.specs.Prefixes.{bytes_cmp, IsRising}
use Rattle.prefix_set.specs.Search.{AreBefore}
use Rattle.list_versions.specs.Shifting.{IsFirstAt}
use Rattle.list_versions.proofs.Rising.{IsBefore, before_itself, before_trans, rising_places}

-- the members up to one that comes before a prefix come before it
pub before_upto : (members : List (List ℕ)) (prefix : List ℕ) (p : ℕ) (x : List ℕ) → IsRising members → slice_get members p ≡ Some x → IsBefore x prefix → AreBefore (take (p + 1) members) prefix
before_upto members prefix p x up is before k d within =
    let below : k < p + 1 = omega (arith, length-take (p + 1) members) in
    let here : IsBefore (get_or members p d) prefix = subst (λ (y : List ℕ). IsBefore y prefix) (sym (get_or_from_slice_get members p x d is)) before in
    subst (λ (y : List ℕ). IsBefore y prefix) (sym (get_or-take (p + 1) members k d below))
    (elim (cases_lt k p) [
      | inl lt ↦ before_trans (get_or members k d) (get_or members p d) prefix (rising_places members k p d up lt (slice_get_within members p x is)) here
      | inr ge ↦ let same : p ≡ k = omega arith in subst (λ (n : ℕ). IsBefore (get_or members n d) prefix) same here
    ])

-- what a test for `Less` shows
pub less_from_test : (o : Ordering) → (ordering_index o == 0) ≡ true → o ≡ Less
less_from_test Less h = refl
less_from_test Equal h = absurd (false≢true h)
less_from_test Greater h = absurd (false≢true h)

pub not_before_at : (members : List (List ℕ)) (prefix : List ℕ) (p : ℕ) (x : List ℕ) (o : Ordering) → slice_get members p ≡ Some x → o ≡ bytes_cmp x prefix → (ordering_index o == 0) ≡ false
    → bytes_cmp (get_or members p []) prefix ≢ Less
not_before_at members prefix p x o at compared tested less =
    let is : o ≡ Less = compared ∙ ap (λ (y : List ℕ). bytes_cmp y prefix) (sym (get_or_from_slice_get members p x [] at)) ∙ less in
    false≢true (sym tested ∙ ap (λ (answer : Ordering). ordering_index answer == 0) is)

-- a prefix that does not stand at its place is no member
pub nowhere : (members : List (List ℕ)) (prefix : List ℕ) (place : ℕ) → IsRising members → IsFirstAt members prefix place → (place < length members → get_or members place [] ≢ prefix) → Contains members prefix → ⊥
nowhere members prefix place up first unlike (k, within, is) = elim (cases_lt k place) [
  | inl lt ↦ before_itself prefix (subst (λ (y : List ℕ). IsBefore y prefix) (get_or-take place members k prefix lt ∙ is) (first.before k prefix (omega (arith, length-take place members))))
  | inr ge ↦ elim (cases_lt place k) [
    | inl lt ↦ (let inside : place < length members = omega arith in
        first.here inside (subst (λ (y : List ℕ). IsBefore y prefix) (get_or_default members place prefix [] inside) (subst (IsBefore (get_or members place prefix)) is (rising_places members place k prefix up lt within))))
    | inr le ↦ (let inside : place < length members = omega arith in
        let same : place ≡ k = omega arith in
        unlike inside (get_or_default members place [] prefix inside ∙ ap (λ (n : ℕ). get_or members n prefix) same ∙ is))
  ]
]
