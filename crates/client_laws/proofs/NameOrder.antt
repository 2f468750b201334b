-- Names in their order, each of which stands once.
use Rattle.std.proofs.Common.{rules, ◌≡◌, ℕ, ◌⊎◌, inl, inr, Bool, true, List, [], ◌∷◌, Contains, refl, sym, ◌∙◌, subst, arith}
use Rattle.std.specs.Prelude.{◌↔◌, ◌==◌, ◌&&◌, IsTrue}
use Rattle.std.specs.declared.cmp.Ordering.{Ordering}
use Rattle.std.specs.declared.cmp.Ordering.TheVariants.{Less, Equal, Greater}
use Rattle.std.specs.Ordering.{nat_cmp, match_ordering, ordering_then, ordering_reverse}
use Rattle.std.specs.Cmp.{IsTotalOrder}
use Rattle.std.specs.List.{AllByRecursion}
use Rattle.std.specs.List.Sorted.{IsStrictlySortedBy}
use Rattle.std.proofs.lemmas.Bool.Decides.{nat_tests}
use Rattle.std.proofs.lemmas.Cmp.{nat_cmp_total, on_total, then_total, tied_itself}
use Rattle.std.proofs.lemmas.Map.Keys.{sorted_head, sorted_tail}
use Rattle.sb_model.specs.declared.names.ListName.{ListName}
use Rattle.sb_model.specs.Names.{threat_code, platform_code, entry_code, name_cmp, same_name}
use Rattle.update_client.specs.Held.{with_name, in_order}
use Rattle.client_laws.proofs.Members.{here, there, cases, nothing}

names_total : IsTotalOrder name_cmp
names_total =
    then_total (on_total (λ (name : ListName). threat_code name.threat) nat_cmp_total)
    (then_total (on_total (λ (name : ListName). platform_code name.platform) nat_cmp_total) (on_total (λ (name : ListName). entry_code name.entry) nat_cmp_total))

-- a name comes before each of these
abbrev pub IsBeforeAll : ListName → List ListName → Type 0
IsBeforeAll name names = AllByRecursion (λ other. name_cmp name other ≡ Less) names

pub not_before_itself : (name : ListName) → name_cmp name name ≡ Less → ⊥
not_before_itself name h = cc (sym h ∙ tied_itself names_total name)

reversed : (o : Ordering) → Greater ≡ ordering_reverse o → o ≡ Less
reversed Less h = refl
reversed Equal h = cc h
reversed Greater h = cc h

rises : (name : ListName) (names : List ListName) → IsBeforeAll name names → IsStrictlySortedBy name_cmp names → IsStrictlySortedBy name_cmp (name ∷ names)
unfolding IsStrictlySortedBy
rises name names before rising = (before, rising)

none_rise : IsStrictlySortedBy name_cmp []
unfolding IsStrictlySortedBy
none_rise = tt

before_later : (name next : ListName) (names : List ListName) → name_cmp name next ≡ Less → IsBeforeAll next names → IsBeforeAll name names
before_later name next [] less before = tt
before_later name next (other ∷ names) less before = (names_total.trans name next other less before.0, before_later name next names less before.1)

before_put : (first name : ListName) (names : List ListName) → name_cmp first name ≡ Less → IsBeforeAll first names → IsBeforeAll first (with_name name names)
before_put first name [] less before = (less, tt)
before_put first name (other ∷ names) less before = go (name_cmp name other) (before_put first name names less before.1)
  where
    go : (o : Ordering) → IsBeforeAll first (with_name name names) → IsBeforeAll first (match_ordering o (name ∷ other ∷ names) (other ∷ names) (other ∷ with_name name names))
    go Less more = (less, before)
    go Equal more = before
    go Greater more = (before.0, more)

rising_put : (name : ListName) (names : List ListName) → IsStrictlySortedBy name_cmp names → IsStrictlySortedBy name_cmp (with_name name names)
rising_put name [] rising = rises name [] tt rising
rising_put name (other ∷ names) rising = go (name_cmp name other) refl (rising_put name names (sorted_tail name_cmp other names rising))
  where
    go : (o : Ordering) → name_cmp name other ≡ o → IsStrictlySortedBy name_cmp (with_name name names)
        → IsStrictlySortedBy name_cmp (match_ordering o (name ∷ other ∷ names) (other ∷ names) (other ∷ with_name name names))
    go Less is more = rises name (other ∷ names) (is, before_later name other names is (sorted_head name_cmp other names rising)) rising
    go Equal is more = rising
    go Greater is more =
        let before : name_cmp other name ≡ Less = reversed (name_cmp other name) (sym is ∙ names_total.antisymm name other) in
        rises other (with_name name names) (before_put other name names before (sorted_head name_cmp other names rising)) more

pub in_order_rises : (names : List ListName) → IsStrictlySortedBy name_cmp (in_order names)
in_order_rises [] = none_rise
in_order_rises (name ∷ names) = rising_put name (in_order names) (in_order_rises names)

-- ---- they are the same names

both_equal : (a b : Ordering) → ordering_then a b ≡ Equal → (a ≡ Equal) × (b ≡ Equal)
both_equal Less b h = cc h
both_equal Equal b h = (refl, h)
both_equal Greater b h = cc h

same_number : (x y : ℕ) → nat_cmp x y ≡ Equal → (x == y) ≡ true
same_number x y h = grind (arith, nat_tests)

all_true : (p q r : Bool) → p ≡ true → q ≡ true → r ≡ true → (p && q && r) ≡ true
all_true p q r a b c = search rules

tied_names : (a b : ListName) → name_cmp a b ≡ Equal → same_name a b ≡ true
tied_names a b h =
    let first = both_equal (nat_cmp (threat_code a.threat) (threat_code b.threat)) (ordering_then (nat_cmp (platform_code a.platform) (platform_code b.platform)) (nat_cmp (entry_code a.entry) (entry_code b.entry))) h in
    let second = both_equal (nat_cmp (platform_code a.platform) (platform_code b.platform)) (nat_cmp (entry_code a.entry) (entry_code b.entry)) first.1 in
    all_true (threat_code a.threat == threat_code b.threat) (platform_code a.platform == platform_code b.platform) (entry_code a.entry == entry_code b.entry)
    (same_number (threat_code a.threat) (threat_code b.threat) first.0)
    (same_number (platform_code a.platform) (platform_code b.platform) second.0)
    (same_number (entry_code a.entry) (entry_code b.entry) second.1)

module _ (same : (a b : ListName) → IsTrue (same_name a b) ↔ (a ≡ b)) where
  new_name : (x : ListName) (ys : List ListName) → Contains (with_name x ys) x
  new_name x [] = here x []
  new_name x (y ∷ ys) = go (name_cmp x y) refl (new_name x ys)
    where
      go : (o : Ordering) → name_cmp x y ≡ o → Contains (with_name x ys) x → Contains (match_ordering o (x ∷ y ∷ ys) (y ∷ ys) (y ∷ with_name x ys)) x
      go Less is more = here x (y ∷ ys)
      go Equal is more = subst (Contains (y ∷ ys)) (sym ((same x y).0 (tied_names x y is))) (here y ys)
      go Greater is more = there y x (with_name x ys) more

  old_name : (x z : ListName) (ys : List ListName) → Contains ys z → Contains (with_name x ys) z
  old_name x z [] h = absurd (nothing z h)
  old_name x z (y ∷ ys) h = go (name_cmp x y) (old_name x z ys)
    where
      go : (o : Ordering) → (Contains ys z → Contains (with_name x ys) z) → Contains (match_ordering o (x ∷ y ∷ ys) (y ∷ ys) (y ∷ with_name x ys)) z
      go Less more = there x z (y ∷ ys) h
      go Equal more = h
      go Greater more = elim (cases y z ys h) [
        | inl same ↦ subst (Contains (y ∷ with_name x ys)) same (here y (with_name x ys))
        | inr later ↦ there y z (with_name x ys) (more later)
      ]

  pub in_names : (xs : List ListName) (z : ListName) → Contains xs z → Contains (in_order xs) z
  in_names [] z h = h
  in_names (x ∷ xs) z h = elim (cases x z xs h) [
    | inl same ↦ subst (Contains (with_name x (in_order xs))) same (new_name x (in_order xs))
    | inr later ↦ old_name x z (in_order xs) (in_names xs z later)
  ]

no_more_names : (x z : ListName) (ys : List ListName) → Contains (with_name x ys) z → (x ≡ z) ⊎ Contains ys z
no_more_names x z [] h = cases x z [] h
no_more_names x z (y ∷ ys) h = go (name_cmp x y) h (no_more_names x z ys)
  where
    go : (o : Ordering) → Contains (match_ordering o (x ∷ y ∷ ys) (y ∷ ys) (y ∷ with_name x ys)) z
        → (Contains (with_name x ys) z → (x ≡ z) ⊎ Contains ys z) → (x ≡ z) ⊎ Contains (y ∷ ys) z
    go Less h more = cases x z (y ∷ ys) h
    go Equal h more = inr h
    go Greater h more = elim (cases y z (with_name x ys) h) [
      | inl same ↦ inr (subst (Contains (y ∷ ys)) same (here y ys))
      | inr later ↦ elim (more later) [
        | inl same ↦ inl same
        | inr old ↦ inr (there y z ys old)
      ]
    ]

pub from_names : (xs : List ListName) (z : ListName) → Contains (in_order xs) z → Contains xs z
from_names [] z h = h
from_names (x ∷ xs) z h = elim (no_more_names x z (in_order xs) h) [
  | inl same ↦ subst (Contains (x ∷ xs)) same (here x xs)
  | inr later ↦ there x z xs (from_names xs z later)
]
