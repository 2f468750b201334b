-- Names that rise are distinct.
use Rattle.std.proofs.Common.{◌≡◌, ◌≢◌, ℕ, zero, suc, ◌<◌, List, [], ◌∷◌, length, sym, subst, arith}
use Rattle.std.specs.Prelude.{AllPairs, slice_index_or}
use Rattle.std.specs.List.{AllByRecursion}
use Rattle.std.specs.List.Sorted.{IsStrictlySortedBy}
use Rattle.std.specs.Cmp.{IsTotalOrder}
use Rattle.std.specs.declared.cmp.Ordering.TheVariants.{Less, Equal}
use Rattle.std.proofs.lemmas.Cmp.{nat_cmp_total, on_total, then_total, tied_itself}
use Rattle.sb_model.specs.declared.names.ListName.{ListName}
use Rattle.sb_model.specs.Names.{threat_code, platform_code, entry_code, name_cmp}

name_total : IsTotalOrder name_cmp
name_total =
    then_total (on_total (λ (name : ListName). threat_code name.threat) nat_cmp_total)
    (then_total (on_total (λ (name : ListName). platform_code name.platform) nat_cmp_total) (on_total (λ (name : ListName). entry_code name.entry) nat_cmp_total))

below_it : (x y : ListName) → name_cmp x y ≡ Less → x ≢ y
below_it x y less same =
    let itself : name_cmp x x ≡ Equal = tied_itself name_total x in
    let also : name_cmp x x ≡ Less = subst (λ (z : ListName). name_cmp x z ≡ Less) (sym same) less in
    cc

at_place : (x : ListName) (xs : List ListName) (j : ℕ) (d : ListName) → AllByRecursion (λ y. name_cmp x y ≡ Less) xs → j < length xs → name_cmp x (slice_index_or xs j d) ≡ Less
at_place x [] j d all within = absurd (omega (arith, within))
at_place x (y ∷ xs) zero d all within = all.0
at_place x (y ∷ xs) (suc j) d all within = at_place x xs j d all.1 (omega (arith, within))

-- names that rise are distinct
pub rising_distinct : (xs : List ListName) → IsStrictlySortedBy name_cmp xs → AllPairs (λ a b. a ≢ b) xs
unfolding IsStrictlySortedBy
rising_distinct [] rise i j d below within = absurd (omega (arith, within))
rising_distinct (x ∷ xs) rise i zero d below within = absurd (omega (arith, below))
rising_distinct (x ∷ xs) rise zero (suc j) d below within = below_it x (slice_index_or xs j d) (at_place x xs j d rise.0 (omega (arith, within)))
rising_distinct (x ∷ xs) rise (suc i) (suc j) d below within = rising_distinct xs rise.1 i j d (omega (arith, below)) (omega (arith, within))
