use Rattle.std.proofs.Common.{◌≡◌, ℕ, List, length, ap, subst, sym, arith, IsPermutation}
use Rattle.std.specs.Prelude.{nat_eq}
use Rattle.std.specs.List.{dedup, Contains}
use Rattle.std.specs.List.Sorted.{IsStrictlyIncreasing}
use Rattle.std.proofs.lemmas.List.Filters.{dedup_is}
use Rattle.std.proofs.lemmas.List.Kept.{Contains-dedup_nat, Contains-from_dedup}
use Rattle.std.proofs.lemmas.List.Sorted.{Contains-permutation, IsPermutation-sym}
use Rattle.std.proofs.lemmas.Map.Keys.{IsStrictlyIncreasing-dedup}
use Rattle.set_updates.proofs.Membership.{In, in_contained, contains_in}
use Rattle.set_updates.proofs.NumberFacts.{same_numbers}
use Rattle.set_updates.proofs.numbers.rising_numbers.Goals as goal

rising : goal.returns-clause-rising
rising c =
    let is : c.dedup.new.self.items ≡ dedup nat_eq c.sort_unstable.new.self.items = dedup_is nat_eq _ _ c.dedup.ensures.filtered in
    subst IsStrictlyIncreasing (sym is) (IsStrictlyIncreasing-dedup c.sort_unstable.new.self.items c.sort_unstable.ensures.sorted)

numbers : goal.returns-clause-numbers
numbers c =
    let ms : List (List ℕ) = c.args.quads.now in
    let first : List ℕ = c.in_ok-numbers.numbers.items in
    let sorted : List ℕ = c.sort_unstable.new.self.items in
    let last : List ℕ = c.dedup.new.self.items in
    let is : last ≡ dedup nat_eq sorted = dedup_is nat_eq _ _ c.dedup.ensures.filtered in
    let moved : IsPermutation first sorted = c.sort_unstable.ensures.permutation in
    same_numbers ms last (c.sent_numbers_rise.ensures.numbers ms) (rising c)
    (λ n h. subst (In n) c.in_ok-numbers.ensures (in_contained n first (Contains-permutation sorted first n (IsPermutation-sym first sorted moved)
    (Contains-from_dedup nat_eq sorted n (subst (λ (xs : List ℕ). Contains xs n) is (contains_in n last h))))))
    (λ n h. in_contained n last (subst (λ (xs : List ℕ). Contains xs n) (sym is) (Contains-dedup_nat sorted n
    (Contains-permutation first sorted n moved (contains_in n first (subst (In n) (sym c.in_ok-numbers.ensures) h))))))

pub returns-clause-rising : goal.returns-clause-rising
returns-clause-rising c = rising c

pub returns-clause-numbers : goal.returns-clause-numbers
returns-clause-numbers c = numbers c

pub returns-clause-few : goal.returns-clause-few
returns-clause-few c = omega (arith, ap length (numbers c), (c.sent_numbers_rise.ensures.numbers c.args.quads.now).few)
