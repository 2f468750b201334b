-- What leads from the set of a list at a version to its newest one, without the older set. The first lines that stand publish
-- what both sets have. The rest of the older set is published of the full hashes that went, and the rest of the newest one of
-- those that came.
use Rattle.std.specs.Prelude.{ℕ, ◌+◌, ◌-◌, ◌||◌, Bool, not, List, take, filter, count_by}
use Rattle.std.specs.Ordering.{is_lt}
use Rattle.sb_model.specs.Difference.{has_member}
use Rattle.sb_model.specs.Prefixes.{bytes_cmp}
use Rattle.list_versions.specs.Live.{Buckets, lines_in}
use Rattle.list_versions.specs.Shifting.{is_published}

-- whether the older set has a prefix: one of the first lines that stand publishes it, or it is among those that went
abbrev pub was_published : Buckets → ℕ → List (List ℕ) → List ℕ → Bool
was_published buckets count gone prefix = is_published count (lines_in buckets (take 4 prefix)) prefix || has_member gone prefix

-- the prefixes that the older set does not have
abbrev pub gained_of : Buckets → ℕ → List (List ℕ) → List (List ℕ) → List (List ℕ)
gained_of buckets count gone prefixes = filter (λ prefix. not (was_published buckets count gone prefix)) prefixes

-- so many members of a list come before a prefix
abbrev pub count_before : List (List ℕ) → List ℕ → ℕ
count_before members prefix = count_by (λ member. is_lt (bytes_cmp member prefix)) members

-- The place of a prefix in the older set. It is counted in the newest one, and the prefixes that the older set alone has count
-- more, and those that the newest alone has do not count.
abbrev pub older_place : List (List ℕ) → List (List ℕ) → List (List ℕ) → List ℕ → ℕ
older_place newest lost gained prefix = count_before newest prefix + count_before lost prefix - count_before gained prefix
