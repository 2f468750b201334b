-- The version that a client is brought to.
use Rattle.std.specs.Prelude.{ℕ, zero, suc, ◌==◌, ◌&&◌, ◌||◌, Bool, nat_le, if◌then◌else◌, Option, Some, None, length}
use Rattle.sb_model.specs.declared.names.ListName.{ListName}
use Rattle.sb_model.specs.History.{History, version_count, prefixes_at}
use Rattle.sb_model.specs.Difference.{difference_count}

-- whether a count is within a limit, of which 0 means none
abbrev pub is_within : ℕ → ℕ → Bool
is_within limit count = limit == 0 || nat_le count limit

-- Whether a client may be brought to a version. One that holds a version may stay there, or come to a later one that has no more
-- prefixes than the database limit and differs in no more than the update limit. Any other client takes a whole set, which is within both limits.
abbrev pub can_reach : History → ListName → Option ℕ → ℕ → ℕ → ℕ → Bool
can_reach history list None max_update max_database version =
    is_within max_update (length (prefixes_at history list version)) && is_within max_database (length (prefixes_at history list version))
can_reach history list (Some held) max_update max_database version =
    version == held
    || (nat_le held version
    && is_within max_update (difference_count (prefixes_at history list held) (prefixes_at history list version))
    && is_within max_database (length (prefixes_at history list version)))

-- the greatest number up to a bound that passes a test, or 0 where none does
abbrev pub greatest_up_to : (ℕ → Bool) → ℕ → ℕ
greatest_up_to test zero = 0
greatest_up_to test (suc bound) = if test (suc bound) then suc bound else greatest_up_to test bound

-- the greatest version that a client may be brought to, who holds a version or none that the history names
abbrev pub target_version : History → ListName → Option ℕ → ℕ → ℕ → ℕ
target_version history list held max_update max_database = greatest_up_to (can_reach history list held max_update max_database) (version_count history)
