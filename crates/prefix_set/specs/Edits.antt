-- A change of a set that is being written down.
use Rattle.std.specs.Prelude.{ℕ, List}

-- the places of the members that go, and the prefixes that come, in the order in which they were given
pub record EditLists : Type 0 where
  pub removals : List ℕ
  pub additions : List (List ℕ)
