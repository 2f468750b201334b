-- The parts of two texts that stand one after the other: the last part of the first and the first part of the second are
-- one part.
use Rattle.std.proofs.Common.{◌≡◌, ℕ, ◌+◌, ◌<◌, List, [], ◌∷◌, ◌++◌, Bool, true, false, cond, length, refl, ap, ◌∙◌, arith}
use Rattle.std.specs.List.{slice_split, onto_first}
use Rattle.std.proofs.lemmas.List.Splits.{length-slice_split}

-- a part that goes on with the first of others
abbrev pub going_on : List ℕ → List (List ℕ) → List (List ℕ)
going_on part [] = part ∷ []
going_on part (first ∷ others) = (part ++ first) ∷ others

-- a part and more parts, of which the last goes on with others
abbrev pub joined : List ℕ → List (List ℕ) → List (List ℕ) → List (List ℕ)
joined part [] others = going_on part others
joined part (next ∷ parts) others = part ∷ joined next parts others

abbrev pub all_joined : List (List ℕ) → List (List ℕ) → List (List ℕ)
all_joined [] others = others
all_joined (part ∷ parts) others = joined part parts others

-- ---- how many there are

pub going_on_some : (part : List ℕ) (others : List (List ℕ)) → 0 < length others → length (going_on part others) ≡ length others
going_on_some part [] h = absurd (omega arith)
going_on_some part (first ∷ others) h = refl

pub length-joined : (part : List ℕ) (parts others : List (List ℕ)) → 0 < length others → length (joined part parts others) ≡ length parts + length others
length-joined part [] others h = let e = going_on_some part others h in omega (arith, e)
length-joined part (next ∷ parts) others h = let e = length-joined next parts others h in omega (arith, e)

-- ---- a text behind another

module _ (p : ℕ → Bool) where
  pub has_parts : (xs : List ℕ) → 0 < length (slice_split p xs)
  has_parts xs = omega (arith, length-slice_split p xs)

  from_nothing : (others : List (List ℕ)) → 0 < length others → others ≡ going_on [] others
  from_nothing [] h = absurd (omega arith)
  from_nothing (first ∷ others) h = refl

  first_joined : (b : Bool) (x : ℕ) (parts others : List (List ℕ)) → 0 < length parts
      → cond b ([] ∷ all_joined parts others) (onto_first x (all_joined parts others)) ≡ all_joined (cond b ([] ∷ parts) (onto_first x parts)) others
  first_joined b x [] others h = absurd (omega arith)
  first_joined true x (part ∷ parts) others h = refl
  first_joined false x (part ∷ []) [] h = refl
  first_joined false x (part ∷ []) (first ∷ others) h = refl
  first_joined false x (part ∷ next ∷ parts) others h = refl

  pub slice_split-append : (xs ys : List ℕ) → slice_split p (xs ++ ys) ≡ all_joined (slice_split p xs) (slice_split p ys)
  slice_split-append [] ys = from_nothing (slice_split p ys) (has_parts ys)
  slice_split-append (x ∷ xs) ys =
      ap (λ parts. cond (p x) ([] ∷ parts) (onto_first x parts)) (slice_split-append xs ys)
      ∙ first_joined (p x) x (slice_split p xs) (slice_split p ys) (has_parts xs)
