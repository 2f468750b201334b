-- What leads from one set to another, as an update may have it.
use Rattle.std.specs.Prelude.{◌<◌, ◌≤◌, length, All}
use Rattle.std.specs.List.Sorted.{IsStrictlyIncreasing}
use Rattle.prefix_set.specs.declared.difference.Delta.{Delta}
use Rattle.prefix_set.specs.declared.set.TheConstants.{MAX_PREFIXES}

-- The places and the members of a delta are those that an update may have: the places rise, and neither are more than a set has.
pub record MayBeSent (delta : Delta) : Type 0 where
  pub rising : IsStrictlyIncreasing delta.removals
  pub few : length delta.removals ≤ MAX_PREFIXES
  pub below : All (λ place. place < MAX_PREFIXES) delta.removals
  pub additions : length delta.additions ≤ MAX_PREFIXES
