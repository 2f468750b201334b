-- Members of a rising list before a prefix, up to a place.
use Rattle.std.proofs.Common.{◌≡◌, ◌≢◌, ℕ, ◌+◌, ◌-◌, ◌<◌, ◌≤◌, inl, inr, List, [], length, take, drop, get_or, Some, refl, sym, subst, ◌∙◌, arith}
use Rattle.std.specs.List.{slice_get}
use Rattle.std.specs.declared.cmp.Ordering.{Ordering}
use Rattle.std.specs.declared.cmp.Ordering.TheVariants.{Less, Equal, Greater}
use Rattle.std.proofs.Common.{Bool, true, false, not}
use Rattle.std.specs.Prelude.{◌↔◌, IsTrue}
use Rattle.std.specs.Bool.{◌==◌}
use Rattle.std.specs.Ordering.{ordering_index}
use Rattle.std.proofs.lemmas.Bool.{cases_lt, false≢true}
use Rattle.std.proofs.lemmas.List.{get_or-take, get_or-drop, length-take, length-drop, get_or_default}
use Rattle.std.proofs.lemmas.Option.{get_or_from_slice_get, slice_get_within, slice_get-get_or}
use Rattle.std.proofs.lemmas.Map.Keys.{Less-from_sorted}
use Rattle.std.proofs.lemmas.Map.Lookups.{exact_bytes}
use Rattle.sb_model.specs.Prefixes.{bytes_cmp, IsRising}
use Rattle.prefix_set.specs.Search.{AreBefore, IsPlaceOf}
use Rattle.prefix_set.proofs.SetFacts.{IsBefore, before_trans, before_flip}

-- a member comes before each that stands after it, and each that stands before it
pub rising_places : (members : List (List ℕ)) (i j : ℕ) (d : List ℕ) → IsRising members → i < j → j < length members
    → IsBefore (get_or members i d) (get_or members j d)
rising_places members i j d up lt within = Less-from_sorted bytes_cmp members i j d up lt within

-- the members up to one that comes before a prefix come before it
pub before_upto : (members : List (List ℕ)) (prefix : List ℕ) (p : ℕ) (x : List ℕ) → IsRising members → slice_get members p ≡ Some x
    → IsBefore x prefix → AreBefore (take (p + 1) members) prefix
before_upto members prefix p x up is before k d within =
    let below : k < p + 1 = omega (arith, length-take (p + 1) members) in
    let inside : p < length members = slice_get_within members p x is in
    let there : get_or members p d ≡ x = get_or_from_slice_get members p x d is in
    subst (λ (y : List ℕ). IsBefore y prefix) (sym (get_or-take (p + 1) members k d below))
    (elim (cases_lt k p) [
      | inl lt ↦ before_trans (get_or members k d) x prefix (subst (IsBefore (get_or members k d)) there (rising_places members k p d up lt inside)) before
      | inr ge ↦ let same : p ≡ k = omega arith in subst (λ (n : ℕ). IsBefore (get_or members n d) prefix) same (subst (λ (y : List ℕ). IsBefore y prefix) (sym there) before)
    ])

-- what a test for `Less` shows
pub less_from_test : (o : Ordering) → (ordering_index o == 0) ≡ true → o ≡ Less
less_from_test Less h = refl
less_from_test Equal h = absurd (false≢true h)
less_from_test Greater h = absurd (false≢true h)

pub not_less_from_test : (o : Ordering) → (ordering_index o == 0) ≡ false → o ≢ Less
not_less_from_test Less h = λ _. false≢true (sym h)
not_less_from_test Equal h = λ is. cc is
not_less_from_test Greater h = λ is. cc is

-- a member that does not come before a prefix, by a test
pub not_before_at : (members : List (List ℕ)) (prefix : List ℕ) (p : ℕ) (x : List ℕ) (o : Ordering) → slice_get members p ≡ Some x
    → o ≡ bytes_cmp x prefix → (ordering_index o == 0) ≡ false → bytes_cmp (get_or members p []) prefix ≢ Less
not_before_at members prefix p x o is compared tested =
    rw (get_or_from_slice_get members p x [] is, ← compared) (not_less_from_test o tested)

pub test_from_not : (b : Bool) → not b ≡ false → b ≡ true
test_from_not true h = refl
test_from_not false h = absurd (false≢true (sym h))

-- what comes after a prefix at a place, and what stands behind that place
pub after_place : (members : List (List ℕ)) (prefix : List ℕ) (index k : ℕ) (d : List ℕ) → IsRising members → index + k < length members
    → IsBefore prefix (get_or members index d) → IsBefore prefix (get_or members (index + k) d)
after_place members prefix index k d up within before = elim (cases_lt index (index + k)) [
  | inl lt ↦ before_trans prefix (get_or members index d) (get_or members (index + k) d) before (rising_places members index (index + k) d up lt within)
  | inr ge ↦ let same : index ≡ index + k = omega arith in subst (λ (n : ℕ). IsBefore prefix (get_or members n d)) same before
]

-- a member that is not before a prefix and is not the prefix comes after it
after_from_not : (x prefix : List ℕ) → bytes_cmp x prefix ≢ Less → x ≢ prefix → IsBefore prefix x
after_from_not x prefix not_before unlike = go (bytes_cmp x prefix) refl
  where
    go : (o : Ordering) → bytes_cmp x prefix ≡ o → IsBefore prefix x
    go Less is = absurd (not_before is)
    go Equal is = absurd (unlike (exact_bytes x prefix is))
    go Greater is = before_flip x prefix is

pub place_found : (members : List (List ℕ)) (prefix : List ℕ) (index : ℕ) → IsRising members → AreBefore (take index members) prefix
    → slice_get members index ≡ Some prefix → IsPlaceOf members prefix index (index + 1)
place_found members prefix index up before is =
    let inside : index < length members = slice_get_within members index prefix is in
    record {
      order = omega arith;
      within = omega arith;
      before = before;
      here = λ k d within.
          let first : k < index + 1 - index = omega (arith, length-take (index + 1 - index) (drop index members)) in
          let zeroth : index ≡ index + k = omega arith in
          get_or-take (index + 1 - index) (drop index members) k d first
          ∙ get_or-drop index members k d
          ∙ subst (λ (n : ℕ). get_or members n d ≡ prefix) zeroth (get_or_from_slice_get members index prefix d is);
      after = λ k d within.
          let there : index + (1 + k) < length members = omega (arith, length-drop (index + 1) members) in
          let place : index + (1 + k) ≡ index + 1 + k = omega arith in
          let strict : index < index + (1 + k) = omega arith in
          subst (IsBefore prefix) (sym (get_or-drop (index + 1) members k d))
          (subst (λ (n : ℕ). IsBefore prefix (get_or members n d)) place
          (subst (λ (x : List ℕ). IsBefore x (get_or members (index + (1 + k)) d)) (get_or_from_slice_get members index prefix d is)
          (rising_places members index (index + (1 + k)) d up strict there)));
    }

pub place_missed : (members : List (List ℕ)) (prefix : List ℕ) (index : ℕ) → IsRising members → index ≤ length members → AreBefore (take index members) prefix
    → (index < length members → bytes_cmp (get_or members index []) prefix ≢ Less)
    → (index < length members → get_or members index [] ≢ prefix) → IsPlaceOf members prefix index index
place_missed members prefix index up inside before not_before unlike = record {
  order = omega arith;
  within = inside;
  before = before;
  here = λ k d within. absurd (omega (arith, length-take (index - index) (drop index members)));
  after = λ k d within.
      let there : index + k < length members = omega (arith, length-drop index members) in
      let here : index < length members = omega arith in
      subst (IsBefore prefix) (sym (get_or-drop index members k d))
      (after_place members prefix index k d up there
      (subst (IsBefore prefix) (get_or_default members index [] d here) (after_from_not (get_or members index []) prefix (not_before here) (unlike here))));
}

pub place_missed_by_test : (members : List (List ℕ)) (prefix : List ℕ) (index : ℕ) (found : Bool) → IsRising members → index ≤ length members
    → AreBefore (take index members) prefix → (index < length members → bytes_cmp (get_or members index []) prefix ≢ Less)
    → (IsTrue found ↔ (slice_get members index ≡ Some prefix)) → found ≡ false → IsPlaceOf members prefix index index
place_missed_by_test members prefix index found up inside before not_before here not_found =
    place_missed members prefix index up inside before not_before
    (λ within is. false≢true (sym not_found ∙ here.1 (slice_get-get_or members index [] within ∙ (λ i. Some (is i)))))
