use Rattle.std.proofs.Common.{◌≡◌, ℕ, List, subst, sym}
use Rattle.std.specs.Prelude.{nat_eq}
use Rattle.std.specs.List.{dedup, Contains}
use Rattle.std.specs.List.Sorted.{IsStrictlyIncreasing}
use Rattle.std.proofs.lemmas.List.Filters.{dedup_is}
use Rattle.std.proofs.lemmas.List.Kept.{Contains-dedup_nat, Contains-from_dedup}
use Rattle.std.proofs.lemmas.List.Sorted.{Contains-permutation, IsPermutation-sym}
use Rattle.std.proofs.lemmas.Map.Keys.{IsStrictlyIncreasing-dedup}
use Rattle.prefix_set.proofs.merge.rising_numbers.Goals as goal

pub returns-then-not-is_increasing-clause-increasing : goal.returns-then-not-is_increasing-clause-increasing
returns-then-not-is_increasing-clause-increasing c =
    let is : c.dedup.new.self.items ≡ dedup nat_eq c.sort_unstable.new.self.items = dedup_is nat_eq _ _ c.dedup.ensures.filtered in
    subst IsStrictlyIncreasing (sym is) (IsStrictlyIncreasing-dedup c.sort_unstable.new.self.items c.sort_unstable.ensures.sorted)

pub returns-then-not-is_increasing-clause-members : goal.returns-then-not-is_increasing-clause-members
returns-then-not-is_increasing-clause-members c n =
    let sorted = c.sort_unstable.new.self.items in
    let is : c.dedup.new.self.items ≡ dedup nat_eq sorted = dedup_is nat_eq _ _ c.dedup.ensures.filtered in
    let moved = c.sort_unstable.ensures.permutation in (
      λ h. Contains-permutation sorted c.args.numbers.items n (IsPermutation-sym c.args.numbers.items sorted moved)
          (Contains-from_dedup nat_eq sorted n (subst (λ (xs : List ℕ). Contains xs n) is h)),
      λ h. subst (λ (xs : List ℕ). Contains xs n) (sym is) (Contains-dedup_nat sorted n (Contains-permutation c.args.numbers.items sorted n moved h)),
    )
