-- Prefixes of four bytes as numbers, the highest byte first: the numbers rise as the prefixes do.
use Rattle.std.specs.Prelude.{◌≡◌, ℕ, ◌<◌, ◌≤◌, ◌==◌, Bool, false, List, [], ◌∷◌, ◌++◌, map, All}
use Rattle.std.specs.Int.{w32, to_be_bytes}

-- the prefixes of some numbers
abbrev pub quads_of : List ℕ → List (List ℕ)
quads_of numbers = map (to_be_bytes w32) numbers

-- What is left of a row of numbers without the first ones, which are below a number.
pub record IsFrom (number : ℕ) (numbers rest : List ℕ) : Type 0 where
  pub below : List ℕ
  pub whole : numbers ≡ below ++ rest
  pub low : All (λ other. other < number) below
  pub next : (first : ℕ) (later : List ℕ) → rest ≡ first ∷ later → number ≤ first

-- whether a number is the first of a row
abbrev pub is_first_of : ℕ → List ℕ → Bool
is_first_of number [] = false
is_first_of number (first ∷ later) = first == number
