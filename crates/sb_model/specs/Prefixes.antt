-- Hash prefixes as byte strings, and sets of them as rising lists without repeats.
use Rattle.std.specs.Prelude.{ℕ, List, [], ◌∷◌}
use Rattle.std.specs.declared.cmp.Ordering.{Ordering}
use Rattle.std.specs.Ordering.{nat_cmp, match_ordering}
use Rattle.std.specs.List.{flat_map}
use Rattle.std.specs.List.Sorted.{IsStrictlySortedBy}
use Rattle.std.specs.Cmp.Lexicographic.{slice_cmp}

-- the order of byte strings: byte by byte, and a string comes before those that it begins
abbrev pub bytes_cmp : List ℕ → List ℕ → Ordering
bytes_cmp = slice_cmp nat_cmp

-- each string comes before those that stand after it
abbrev pub IsRising : List (List ℕ) → Type 0
IsRising = IsStrictlySortedBy bytes_cmp

-- a rising list with one more member, which it may have already
abbrev pub with_member : List ℕ → List (List ℕ) → List (List ℕ)
with_member x [] = x ∷ []
with_member x (y ∷ ys) = match_ordering (bytes_cmp x y) (x ∷ y ∷ ys) (y ∷ ys) (y ∷ with_member x ys)

-- the rising list of the members of any list
abbrev pub set_of : List (List ℕ) → List (List ℕ)
set_of [] = []
set_of (x ∷ xs) = with_member x (set_of xs)

-- the members one after the other
abbrev pub concatenation : List (List ℕ) → List ℕ
concatenation members = flat_map (λ member. member) members
