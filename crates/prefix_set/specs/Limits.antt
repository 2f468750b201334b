-- How much a set of prefixes may hold.
use Rattle.std.specs.Prelude.{ℕ, ◌≤◌, List, length, All}
use Rattle.sb_model.specs.Prefixes.{IsRising, concatenation}
use Rattle.sb_model.specs.History.{IsPrefixSize}
use Rattle.prefix_set.specs.declared.set.TheConstants.{MAX_PREFIXES, MAX_BYTES}

-- not too many prefixes, and not too many bytes of them
abbrev pub IsWithinLimits : List (List ℕ) → Type 0
IsWithinLimits set = (length set ≤ MAX_PREFIXES) × (length (concatenation set) ≤ MAX_BYTES)

-- each has 4 to 32 bytes
abbrev pub ArePrefixes : List (List ℕ) → Type 0
ArePrefixes members = All (λ member. IsPrefixSize (length member)) members

-- what each set keeps: its members rise, are prefixes, and are within the limits
pub record IsPrefixSet (set : List (List ℕ)) : Type 0 where
  pub rising : IsRising set
  pub prefixes : ArePrefixes set
  pub count : length set ≤ MAX_PREFIXES
  pub bytes : length (concatenation set) ≤ MAX_BYTES
