-- What leads from one set to another.
use Rattle.std.specs.Prelude.{ℕ, ◌+◌, Bool, not, List, length, map, filter}
use Rattle.std.specs.List.{list_any, enumerate_from}
use Rattle.std.specs.Str.{bytes_eq}

-- whether a set has a member
abbrev pub has_member : List (List ℕ) → List ℕ → Bool
has_member set member = list_any (λ other. bytes_eq other member) set

-- The places of the members that a newer set lacks, rising. They count the rising members from 0.
abbrev pub removed_places : List (List ℕ) → List (List ℕ) → List ℕ
removed_places old newer = map (λ member. member.0) (filter (λ member. not (has_member newer member.1)) (enumerate_from 0 old))

-- the members that an older set lacks, rising
abbrev pub added_members : List (List ℕ) → List (List ℕ) → List (List ℕ)
added_members old newer = filter (λ member. not (has_member old member)) newer

-- how many members are in exactly one of two sets
abbrev pub difference_count : List (List ℕ) → List (List ℕ) → ℕ
difference_count old newer = length (removed_places old newer) + length (added_members old newer)
