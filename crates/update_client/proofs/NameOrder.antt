-- The order of names, and names in their order.
use Rattle.std.proofs.Common.{◌≡◌, suc, ◌≤◌, List, [], ◌∷◌, Bool, true, false, length, refl, sym, ap, ◌∙◌, arith}
use Rattle.std.specs.declared.cmp.Ordering.{Ordering}
use Rattle.std.specs.declared.cmp.Ordering.TheVariants.{Less, Equal, Greater}
use Rattle.std.specs.Ordering.{match_ordering, ordering_reverse}
use Rattle.std.specs.Cmp.{IsTotalOrder}
use Rattle.std.specs.List.{AllByRecursion}
use Rattle.std.specs.List.Sorted.{IsStrictlySortedBy}
use Rattle.std.proofs.lemmas.Cmp.{nat_cmp_total, on_total, then_total, tied_itself}
use Rattle.std.proofs.lemmas.Map.Keys.{sorted_head, sorted_tail}
use Rattle.sb_model.specs.declared.names.ListName.{ListName}
use Rattle.sb_model.specs.Names.{threat_code, platform_code, entry_code, same_name, name_cmp}
use Rattle.update_client.proofs.SameNames.{equal_from_same_name}
use Rattle.update_client.specs.Held.{with_name, in_order}

pub name_total : IsTotalOrder name_cmp
name_total =
    then_total (on_total (λ (name : ListName). threat_code name.threat) nat_cmp_total)
    (then_total (on_total (λ (name : ListName). platform_code name.platform) nat_cmp_total) (on_total (λ (name : ListName). entry_code name.entry) nat_cmp_total))

-- one name comes before another
abbrev pub IsBefore : ListName → ListName → Type 0
IsBefore a b = name_cmp a b ≡ Less

before_from_reverse : (o : Ordering) → Greater ≡ ordering_reverse o → o ≡ Less
before_from_reverse Less h = refl
before_from_reverse Equal h = cc h
before_from_reverse Greater h = cc h

before_flip : (a b : ListName) → name_cmp a b ≡ Greater → IsBefore b a
before_flip a b h = before_from_reverse (name_cmp b a) (sym h ∙ name_total.antisymm a b)

before_itself : (a : ListName) → IsBefore a a → ⊥
before_itself a h = cc (sym h ∙ tied_itself name_total a)

-- of two names that are not one, one is not the other's
pub apart : (own other name : ListName) (b : Bool) → same_name own name ≡ true → IsBefore own other → same_name other name ≡ b → b ≡ false
apart own other name false same before is = refl
apart own other name true same before is =
    let first : own ≡ name = equal_from_same_name own name same in
    let second : other ≡ name = equal_from_same_name other name is in
    absurd (before_itself name (sym (ap (λ n. name_cmp n name) first) ∙ sym (ap (λ n. name_cmp own n) second) ∙ before))

-- ---- one more name

rising_cons : (name : ListName) (names : List ListName) → AllByRecursion (λ other. IsBefore name other) names → IsStrictlySortedBy name_cmp names → IsStrictlySortedBy name_cmp (name ∷ names)
unfolding IsStrictlySortedBy
rising_cons name names above rising = (above, rising)

rising_nil : IsStrictlySortedBy name_cmp []
unfolding IsStrictlySortedBy
rising_nil = tt

all_after : (a b : ListName) (names : List ListName) → IsBefore a b → AllByRecursion (λ other. IsBefore b other) names → AllByRecursion (λ other. IsBefore a other) names
all_after a b [] h above = tt
all_after a b (c ∷ names) h above = (name_total.trans a b c h above.0, all_after a b names h above.1)

all_after-with_name : (b a : ListName) (names : List ListName) → IsBefore b a → AllByRecursion (λ other. IsBefore b other) names
    → AllByRecursion (λ other. IsBefore b other) (with_name a names)
all_after-with_name b a [] h above = (h, tt)
all_after-with_name b a (c ∷ names) h above = go (name_cmp a c) (all_after-with_name b a names h above.1)
  where
    go : (o : Ordering) → AllByRecursion (λ other. IsBefore b other) (with_name a names)
        → AllByRecursion (λ other. IsBefore b other) (match_ordering o (a ∷ c ∷ names) (c ∷ names) (c ∷ with_name a names))
    go Less more = (h, above)
    go Equal more = above
    go Greater more = (above.0, more)

rising-with_name : (a : ListName) (names : List ListName) → IsStrictlySortedBy name_cmp names → IsStrictlySortedBy name_cmp (with_name a names)
rising-with_name a [] rising = rising_cons a [] tt rising
rising-with_name a (c ∷ names) rising = go (name_cmp a c) refl (rising-with_name a names (sorted_tail name_cmp c names rising))
  where
    go : (o : Ordering) → name_cmp a c ≡ o → IsStrictlySortedBy name_cmp (with_name a names)
        → IsStrictlySortedBy name_cmp (match_ordering o (a ∷ c ∷ names) (c ∷ names) (c ∷ with_name a names))
    go Less is more = rising_cons a (c ∷ names) (is, all_after a c names is (sorted_head name_cmp c names rising)) rising
    go Equal is more = rising
    go Greater is more =
        rising_cons c (with_name a names) (all_after-with_name c a names (before_flip a c is) (sorted_head name_cmp c names rising)) more

pub rising-in_order : (names : List ListName) → IsStrictlySortedBy name_cmp (in_order names)
rising-in_order [] = rising_nil
rising-in_order (name ∷ names) = rising-with_name name (in_order names) (rising-in_order names)

length-with_name : (a : ListName) (names : List ListName) → length (with_name a names) ≤ suc (length names)
length-with_name a [] = omega arith
length-with_name a (c ∷ names) = go (name_cmp a c) (length-with_name a names)
  where
    go : (o : Ordering) → length (with_name a names) ≤ suc (length names) → length (match_ordering o (a ∷ c ∷ names) (c ∷ names) (c ∷ with_name a names)) ≤ suc (suc (length names))
    go Less h = omega arith
    go Equal h = omega arith
    go Greater h = omega (arith, h)

pub length-in_order : (names : List ListName) → length (in_order names) ≤ length names
length-in_order [] = omega arith
length-in_order (name ∷ names) = omega (arith, length-with_name name (in_order names), length-in_order names)
