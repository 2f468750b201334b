-- The parts of a list, by the place of the first element at which it is cut.
use Rattle.std.proofs.Common.{◌≡◌, ◌<◌, ◌≤◌, ◌+◌, ◌-◌, ◌∷◌, ◌∙◌, ℕ, List, [], length, take, drop, Bool, false, Some, None, ap, sym, arith, length-drop}
use Rattle.std.specs.Prelude.{All, position}
use Rattle.std.specs.List.{position_or_len, slice_split}
use Rattle.std.proofs.lemmas.Grind.{common_steps}
use Rattle.std.proofs.lemmas.List.{take_rest}
use Rattle.std.proofs.lemmas.List.Splits.{slice_split_first, slice_split_none}
use Rattle.std.proofs.lemmas.List.Sums.{fails_before_first}

pub none_long : {X : Type 0} (p : X → Bool) (xs : List X) → position p xs ≡ None → length xs ≤ position_or_len p xs
none_long p xs none = grind (arith, common_steps)

-- cut at the first place
pub cut_first : (p : ℕ → Bool) (xs : List ℕ) (i : ℕ) → position p xs ≡ Some i
    → (slice_split p xs ≡ take i xs ∷ slice_split p (take (length xs - (i + 1)) (drop (i + 1) xs))) × (length (take (length xs - (i + 1)) (drop (i + 1) xs)) < length xs)
cut_first p xs i found =
    let at : position_or_len p xs ≡ i = grind (arith, common_steps) in
    let inside : position_or_len p xs < length xs = grind (arith, common_steps) in
    let rest = take_rest xs (i + 1) in (
      slice_split_first p xs 0 inside ∙ ap (λ (k : ℕ). take k xs ∷ slice_split p (drop (k + 1) xs)) at
          ∙ ap (λ (after : List ℕ). take i xs ∷ slice_split p after) (sym rest),
      omega (arith, at, inside, ap length rest, length-drop (i + 1) xs),
    )

-- nowhere cut
pub cut_nowhere : (p : ℕ → Bool) (xs : List ℕ) → position p xs ≡ None → slice_split p xs ≡ xs ∷ []
cut_nowhere p xs none =
    let all : All (λ (x : ℕ). p x ≡ false) xs = λ k d less. fails_before_first p xs k d (omega (arith, less, none_long p xs none)) in
    slice_split_none p xs all
