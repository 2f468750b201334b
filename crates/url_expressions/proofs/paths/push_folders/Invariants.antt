use Rattle.std.proofs.Common.{◌≡◌, ◌≤◌, ℕ, List, All, ◌++◌, length, take}
use Rattle.std.specs.Prelude.{map}
use Rattle.url_expressions.specs.Expressions.{first_occurrences}
use Rattle.url_expressions.proofs.Slashes.{slash_fronts}
use Rattle.url_expressions.proofs.paths.push_folders.Given as goal

abbrev pub invariant-loop : goal.invariant-loop
invariant-loop l = record {
  from : l.from ≤ length l.path;
  count : length (slash_fronts (take l.from l.path)) ≡ l.counter;
  within : (most : ℕ) → length l.path ≤ most → All (λ len. len ≤ most) l.fn.lens.items → All (λ len. len ≤ most) l.lens.items;
  value : (texts : List (List ℕ)) (rest : List ℕ) → All (λ len. len ≤ length (l.path ++ rest)) l.fn.lens.items
      → map (λ len. take len (l.path ++ rest)) l.fn.lens.items ≡ first_occurrences texts
      → map (λ len. take len (l.path ++ rest)) l.lens.items ≡ first_occurrences (texts ++ slash_fronts (take l.from l.path));
}
