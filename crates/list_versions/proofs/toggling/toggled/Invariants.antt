use Rattle.std.proofs.Common.{◌<◌, ◌≤◌, ◌++◌, ℕ, length, take, drop, get_or}
use Rattle.std.specs.Prelude.{◌↔◌, All, Contains}
use Rattle.std.specs.List.Sorted.{IsStrictlyIncreasing}
use Rattle.list_versions.specs.Numbers.{IsInOne}
use Rattle.list_versions.proofs.toggling.toggled.Given as goal

abbrev pub invariant-loop-number : goal.invariant-loop-number
invariant-loop-number l = record {
  within : l.from ≤ length l.numbers;
  rising : IsStrictlyIncreasing (l.toggled.items ++ drop l.from l.numbers);
  same : (n : ℕ) → Contains (l.toggled.items ++ drop l.from l.numbers) n ↔ IsInOne l.numbers (take l.number-index l.changed) n;
  low : (k d : ℕ) → l.number-index ≤ k → k < length l.changed → All (λ n. n < get_or l.changed k d) l.toggled.items;
}
