-- An index of a rising list by the first two bytes of its members.
use Rattle.std.specs.Prelude.{◌≡◌, ℕ, ◌+◌, ◌*◌, ◌<◌, ◌==◌, ◌&&◌, Bool, List, length, map, count_by, nat_lt, slice_index, All}
use Rattle.prefix_set.specs.Limits.{IsPrefixSet}
use Rattle.prefix_set.specs.declared.index.HeadIndex.{HeadIndex}
use Rattle.prefix_set.specs.declared.index.HeadIndex.TheVariants.{Heads, Places}

-- the first two bytes as a number
abbrev pub head_number : List ℕ → ℕ
head_number prefix = slice_index prefix 0 * 256 + slice_index prefix 1

-- whether two prefixes have the same first two bytes
abbrev pub begins_alike : List ℕ → List ℕ → Bool
begins_alike prefix other = slice_index prefix 0 == slice_index other 0 && slice_index prefix 1 == slice_index other 1

-- how many members have the first two bytes of a prefix
abbrev pub alike_count : List (List ℕ) → List ℕ → ℕ
alike_count set prefix = count_by (λ member. begins_alike member prefix) set

-- how many members have a lower head
abbrev pub count_below : List (List ℕ) → ℕ → ℕ
count_below members head = count_by (λ member. nat_lt (head_number member) head) members

-- the number of a head is made of bytes
abbrev pub HaveHeads : List (List ℕ) → Type 0
HaveHeads members = All (λ member. slice_index member 1 < 256) members

-- where the members with each head begin, and at last the end
pub record ArePlacesOf (places : List ℕ) (members : List (List ℕ)) : Type 0 where
  pub long : length places ≡ 65537
  pub each : (head : ℕ) → head < 65537 → slice_index places head ≡ count_below members head

-- the heads of all members in order, or where the members with each head begin
abbrev pub IsIndexOf : HeadIndex → List (List ℕ) → Type 0
IsIndexOf (Heads heads) members = heads.items ≡ map head_number members
IsIndexOf (Places places) members = ArePlacesOf places.items members

-- what the fields of a set keep
pub record IsIndexed (members : List (List ℕ)) (index : HeadIndex) : Type 0 where
  pub set : IsPrefixSet members
  pub heads : HaveHeads members
  pub is : IsIndexOf index members
