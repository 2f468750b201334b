-- The Rice codes of numbers, for a parameter.
use Rattle.std.specs.Prelude.{ℕ, ◌+◌, ◌-◌, ◌/◌, ◌^◌, ◌≤◌, ◌<◌, zero, suc, Bool, true, false, List, [], ◌∷◌, ◌++◌, length, replicate, nat_le, if◌then◌else◌}
use Rattle.std.specs.List.{flat_map}
use Rattle.rice_coding.specs.Bits.{low_bits}

-- the quotient by 2 ^ parameter in ones, a zero, and the low bits, the lowest first
unfoldable pub code : ℕ → ℕ → List Bool
code parameter delta = replicate (delta / 2 ^ parameter) true ++ false ∷ low_bits parameter delta

-- the codes one after the other
abbrev pub codes : ℕ → List ℕ → List Bool
codes parameter deltas = flat_map (code parameter) deltas

-- how many bits the codes take
abbrev pub coded_length : ℕ → List ℕ → ℕ
coded_length parameter deltas = length (codes parameter deltas)

-- the numbers after `first`, each of which is the one before it and the next delta
abbrev pub running_sums : ℕ → List ℕ → List ℕ
running_sums first [] = []
running_sums first (delta ∷ deltas) = (first + delta) ∷ running_sums (first + delta) deltas

-- the differences of numbers that rise, each to the one before it
abbrev pub differences : ℕ → List ℕ → List ℕ
differences previous [] = []
differences previous (value ∷ values) = (value - previous) ∷ differences value values

-- of the parameters from 2 to 28 the one with the fewest bits in all, and of equals the least
pub record HasFewestBits (deltas : List ℕ) (parameter : ℕ) : Type 0 where
  pub from : 2 ≤ parameter
  pub to : parameter ≤ 28
  pub fewest : (other : ℕ) → 2 ≤ other → other ≤ 28 → coded_length parameter deltas ≤ coded_length other deltas
  pub least : (other : ℕ) → 2 ≤ other → other < parameter → coded_length parameter deltas < coded_length other deltas

-- of the numbers from `at` to `at + more` the one at which a function is the least, and of several the first
abbrev pub place_of_least : (ℕ → ℕ) → ℕ → ℕ → ℕ
place_of_least f at zero = at
place_of_least f at (suc more) = let later = place_of_least f (at + 1) more in if nat_le (f at) (f later) then at else later

-- the parameter from 2 to 28 with the fewest bits in all, and of equals the least
unfoldable pub best_parameter : List ℕ → ℕ
best_parameter deltas = place_of_least (λ parameter. coded_length parameter deltas) 2 26
