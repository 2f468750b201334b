-- Prefixes that stand one after the other in one string of bytes, and how a layout tells them apart.
use Rattle.std.specs.Prelude.{◌≡◌, ℕ, zero, suc, ◌+◌, ◌-◌, ◌<◌, ◌^◌, List, [], ◌∷◌, length, take, drop, All}
use Rattle.sb_model.specs.Prefixes.{concatenation}
use Rattle.sb_model.specs.History.{IsPrefixSize}
use Rattle.prefix_set.specs.Pieces.{pieces_of}
use Rattle.prefix_set.specs.declared.layout.Layout.{Layout}
use Rattle.prefix_set.specs.declared.layout.Layout.TheVariants.{Even, Mixed}

-- where each member ends, if the first begins at a start
abbrev pub ends_from : ℕ → List (List ℕ) → List ℕ
ends_from start [] = []
ends_from start (member ∷ members) = (start + length member) ∷ ends_from (start + length member) members

-- where so many members of one size end
abbrev pub even_ends : ℕ → ℕ → ℕ → List ℕ
even_ends start size zero = []
even_ends start size (suc count) = (start + size) ∷ even_ends (start + size) size count

-- a string that begins at a start, cut at these ends
abbrev pub cut_from : ℕ → List ℕ → List ℕ → List (List ℕ)
cut_from start [] bytes = []
cut_from start (end ∷ ends) bytes = take (end - start) bytes ∷ cut_from end ends (drop (end - start) bytes)

-- the members of a string, as a layout tells them apart
abbrev pub members_of : List ℕ → Layout → List (List ℕ)
members_of bytes (Even size) = pieces_of size bytes
members_of bytes (Mixed ends) = cut_from 0 ends.items bytes

-- each member has this size
abbrev pub HaveSize : ℕ → List (List ℕ) → Type 0
HaveSize size = All (λ member. length member ≡ size)

-- what a layout says of the members
abbrev pub LaysOut : Layout → List (List ℕ) → Type 0
LaysOut (Even size) members = IsPrefixSize size × HaveSize size members
LaysOut (Mixed ends) members = ends.items ≡ ends_from 0 members

-- a string that consists of prefixes, as its layout says
pub record IsPacked (bytes : List ℕ) (layout : Layout) : Type 0 where
  pub joined : concatenation (members_of bytes layout) ≡ bytes
  pub sizes : All (λ member. IsPrefixSize (length member)) (members_of bytes layout)
  pub laid_out : LaysOut layout (members_of bytes layout)
  pub limit : length bytes < 2 ^ 32
