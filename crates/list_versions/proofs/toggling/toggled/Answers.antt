use Rattle.std.proofs.Common.{◌≡◌, ◌++◌, ◌∙◌, ◌<◌, ℕ, List, [], take, drop, get_or, refl, sym, ap, subst, arith}
use Rattle.std.specs.Prelude.{◌↔◌, All, Contains}
use Rattle.std.specs.List.Sorted.{IsStrictlyIncreasing}
use Rattle.std.proofs.lemmas.List.{take_all, take_rest}
use Rattle.list_versions.specs.Numbers.{IsInOne}
use Rattle.list_versions.proofs.Toggles.{below_later, none_seen, toggled_more}
use Rattle.list_versions.proofs.toggling.toggled.Goals as goal

pub loop-number-init : goal.loop-number-init
loop-number-init c =
    let none : c.in_ok-toggled.toggled.items ≡ [] = c.in_ok-toggled.ensures.items in
    record {
      within = omega arith;
      rising = subst (λ (ts : List ℕ). IsStrictlyIncreasing (ts ++ c.args.numbers.now)) (sym none) c.requires.numbers;
      same = λ n. subst (λ (ts : List ℕ). Contains (ts ++ c.args.numbers.now) n ↔ IsInOne c.args.numbers.now [] n) (sym none) (none_seen c.args.numbers.now n);
      low = λ k d le lt. subst (λ (ts : List ℕ). All (λ n. n < get_or c.args.changed.now k d) ts) (sym none) (λ j e less. absurd (omega arith));
    }

pub push_toggled-requires-clause-below : goal.push_toggled-requires-clause-below
push_toggled-requires-clause-below c = c.loop-number.invariant.low c.loop-number.number-index 0 (omega arith) c.loop-number-test.true

pub loop-number-preserved : goal.loop-number-preserved
loop-number-preserved c =
    let changed : List ℕ = c.args.changed.now in
    let i : ℕ = c.loop-number.number-index in
    record {
      within = c.in_ok-from.ensures.next;
      rising = c.in_ok-from.ensures.toggled.rising;
      same = toggled_more c.args.numbers.now changed (c.loop-number.toggled.items ++ drop c.loop-number.from c.args.numbers.now) (c.push_toggled.new.toggled.items ++ drop c.in_ok-from.from c.args.numbers.now) i (get_or changed i 0)
          c.requires.changed c.loop-number-test.true refl c.in_ok-from.ensures.toggled c.loop-number.invariant.same;
      low = λ k d. below_later changed c.push_toggled.new.toggled.items i (get_or changed i 0) k d c.requires.changed refl c.in_ok-from.ensures.below;
    }

whole : (c : goal.In_ok-extend_from_slice) → c.loop-number.toggled.items ++ drop c.loop-number.from c.args.numbers.now ≡ c.extend_from_slice.new.self.items
whole c = sym (c.in_ok-extend_from_slice.ensures.items ∙ ap (λ (xs : List ℕ). c.loop-number.toggled.items ++ xs) (take_rest c.args.numbers.now c.loop-number.from))

pub returns-clause-rising : goal.returns-clause-rising
returns-clause-rising c = subst IsStrictlyIncreasing (whole c) c.loop-number.invariant.rising

pub returns-clause-same : goal.returns-clause-same
returns-clause-same c =
    let all : take c.loop-number.number-index c.args.changed.now ≡ c.args.changed.now = take_all c.loop-number.number-index c.args.changed.now (omega arith) in
    λ n. subst (λ (xs : List ℕ). Contains xs n ↔ IsInOne c.args.numbers.now c.args.changed.now n) (whole c)
    (subst (λ (ys : List ℕ). Contains (c.loop-number.toggled.items ++ drop c.loop-number.from c.args.numbers.now) n ↔ IsInOne c.args.numbers.now ys n) all (c.loop-number.invariant.same n))
