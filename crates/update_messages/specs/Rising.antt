-- What holds of the rising numbers that an update carries.
use Rattle.std.specs.Prelude.{◌↔◌, ◌<◌, ◌≤◌, ℕ, List, length, map, All, Contains}
use Rattle.std.specs.Int.{w32, from_le_bytes}
use Rattle.std.specs.List.Sorted.{IsStrictlyIncreasing}
use Rattle.sb_model.specs.Difference.{removed_places}
use Rattle.update_messages.specs.Answer.{numbers_of}

-- These are places in a list of so many: they rise, and lie within it.
pub record AreRisingPlaces (count : ℕ) (places : List ℕ) : Type 0 where
  pub rising : IsStrictlyIncreasing places
  pub few : length places ≤ count
  pub within : All (λ place. place < count) places

-- These are the numbers of members of four bytes: they rise, and are no others.
pub record AreRisingNumbers (members : List (List ℕ)) (numbers : List ℕ) : Type 0 where
  pub rising : IsStrictlyIncreasing numbers
  pub few : length numbers ≤ length members
  pub same : (n : ℕ) → Contains numbers n ↔ Contains (map (from_le_bytes w32) members) n

-- The places of the members that a newer set lacks rise, and so do the numbers of members.
pub record SentNumbersRise : Type 0 where
  pub places : (old newer : List (List ℕ)) → AreRisingPlaces (length old) (removed_places old newer)
  pub numbers : (members : List (List ℕ)) → AreRisingNumbers members (numbers_of members)
