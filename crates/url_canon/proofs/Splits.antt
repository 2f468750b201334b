-- The parts between the elements that pass a test.
use Rattle.std.proofs.Common.{◌≡◌, ℕ, ◌+◌, ◌<◌, ◌≢◌, List, [], ◌∷◌, Bool, false, eqb, length, Option, Some, None, refl, arith}
use Rattle.std.specs.List.{AllByRecursion, All, slice_split, onto_first, list_any}
use Rattle.std.specs.Option.{option_map_or}
use Rattle.url_canon.specs.Words.{last_part}
use Rattle.std.proofs.lemmas.Bool.{cond_both, eqb-false, or_from, or_parts}
use Rattle.std.proofs.lemmas.List.Elements.{All-from_recursion, All-weaker}

-- no element of a part passes
abbrev pub Lacks : {X : Type 0} → (X → Bool) → List X → Type 0
Lacks p part = list_any p part ≡ false

Lacks-onto_first : {X : Type 0} (p : X → Bool) (x : X) (parts : List (List X)) → p x ≡ false → AllByRecursion (Lacks p) parts → AllByRecursion (Lacks p) (onto_first x parts)
Lacks-onto_first p x [] not_x h = (or_from (p x) false not_x refl, tt)
Lacks-onto_first p x (part ∷ parts) not_x h = (or_from (p x) (list_any p part) not_x h.0, h.1)

pub Lacks-slice_split : {X : Type 0} (p : X → Bool) (xs : List X) → AllByRecursion (Lacks p) (slice_split p xs)
Lacks-slice_split p [] = (refl, tt)
Lacks-slice_split p (x ∷ xs) =
    cond_both (p x) ([] ∷ slice_split p xs) (onto_first x (slice_split p xs)) (AllByRecursion (Lacks p)) (λ _. (refl, Lacks-slice_split p xs)) (λ not_x. Lacks-onto_first p x _ not_x (Lacks-slice_split p xs))

each_fails : {X : Type 0} (p : X → Bool) (xs : List X) → list_any p xs ≡ false → AllByRecursion (λ x. p x ≡ false) xs
each_fails p [] none = tt
each_fails p (x ∷ xs) none =
    let parts = or_parts (p x) (list_any p xs) none in (parts.0, each_fails p xs parts.1)

some-onto_first : {X : Type 0} (x : X) (parts : List (List X)) → 0 < length (onto_first x parts)
some-onto_first x [] = omega arith
some-onto_first x (part ∷ parts) = omega arith

-- there is a part at least
pub some-slice_split : {X : Type 0} (p : X → Bool) (xs : List X) → 0 < length (slice_split p xs)
some-slice_split p [] = omega arith
some-slice_split p (x ∷ xs) =
    cond_both (p x) ([] ∷ slice_split p xs) (onto_first x (slice_split p xs)) (λ parts. 0 < length parts) (λ _. omega arith) (λ _. some-onto_first x (slice_split p xs))

-- what lacks a number has it nowhere
pub All_ne-lacking : (c : ℕ) (xs : List ℕ) → list_any (λ x. eqb x c) xs ≡ false → All (λ x. x ≢ c) xs
All_ne-lacking c xs none =
    All-weaker (λ x. eqb x c ≡ false) (λ x. x ≢ c) (λ x not_x. eqb-false x c not_x) xs (All-from_recursion (λ x. eqb x c ≡ false) xs (each_fails (λ x. eqb x c) xs none))

-- the parts of the rest that a split left, which has none where there is no rest
abbrev pub parts_after : {X : Type 0} → (X → Bool) → Option (List X) → List (List X)
parts_after p rest = option_map_or (slice_split p) rest []

-- how much is left to split
abbrev pub size_after : Option (List ℕ) → ℕ
size_after None = 0
size_after (Some rest) = length rest + 1

pub last_part-more : {X : Type 0} (x : List X) (parts : List (List X)) → 0 < length parts → last_part (x ∷ parts) ≡ last_part parts
last_part-more x [] some = absurd (omega arith)
last_part-more x (part ∷ parts) some = refl
