-- The numbers of the prefixes of four bytes in a set.
use Rattle.std.specs.Prelude.{◌≡◌, ◌≢◌, ◌⊎◌, ◌==◌, ◌↔◌, ℕ, List, length, map, filter, All, Contains}
use Rattle.std.specs.Int.{w32, from_le_bytes, to_le_bytes}
use Rattle.std.specs.List.Sorted.{IsStrictlyIncreasing}

-- the members of four bytes
abbrev pub quads_in : List (List ℕ) → List (List ℕ)
quads_in set = filter (λ member. length member == 4) set

-- each member of four bytes as a number, the lowest byte first, in the order of the members
abbrev pub numbers_in : List (List ℕ) → List ℕ
numbers_in set = map (from_le_bytes w32) (quads_in set)

-- a number tells the member
abbrev pub Tells : List ℕ → Type 0
Tells member = to_le_bytes w32 (from_le_bytes w32 member) ≡ member

-- The numbers of the members of four bytes, and no others. They rise.
pub record AreNumbersOf (set : List (List ℕ)) (numbers : List ℕ) : Type 0 where
  pub rising : IsStrictlyIncreasing numbers
  pub same : (n : ℕ) → Contains numbers n ↔ Contains (numbers_in set) n
  pub tell : All Tells (quads_in set)

-- a number is in one of two lists and not in the other
abbrev pub IsInOne : List ℕ → List ℕ → ℕ → Type 0
IsInOne first second n = (Contains first n × (Contains second n → ⊥)) ⊎ ((Contains first n → ⊥) × Contains second n)

-- A number is put into a rising list if it is not there, and taken out if it is.
pub record IsToggled (number : ℕ) (before after : List ℕ) : Type 0 where
  pub rising : IsStrictlyIncreasing after
  pub own : Contains after number ↔ (Contains before number → ⊥)
  pub others : (n : ℕ) → n ≢ number → Contains after n ↔ Contains before n
