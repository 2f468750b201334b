-- The parts of a text between the bytes that pass a test.
use Rattle.std.proofs.Common.{◌≡◌, ℕ, ◌+◌, ◌-◌, ◌<◌, ◌≤◌, List, [], ◌∷◌, Bool, true, false, length, take, drop, refl, subst, cond, Some, None, arith, nat_lt}
use Rattle.std.specs.Prelude.{position}
use Rattle.std.specs.List.{slice_split, position_or_len}
use Rattle.std.proofs.lemmas.List.Quantifiers.{position-Some}
use Rattle.std.proofs.lemmas.List.Sums.{position_or_len_is, fails_before_first}
use Rattle.std.proofs.lemmas.List.Splits.{slice_split_first, slice_split_none, length-slice_split}
use Rattle.std.proofs.lemmas.List.Elements.{All-from_get_or}
use borrow.Author.Tests.{ltb-false}
use Rattle.std.proofs.lemmas.List.{length-drop, take_all}

module _ (p : ℕ → Bool) where
  -- the first byte that passes ends the first part
  pub parts_found : (xs : List ℕ) (i : ℕ) → position p xs ≡ Some i → slice_split p xs ≡ take i xs ∷ slice_split p (drop (i + 1) xs)
  parts_found xs i h =
      let found = position-Some p xs i 0 h in
      let place : position_or_len p xs ≡ i = position_or_len_is p xs i 0 (omega (arith, found.0)) found.2 (λ _. found.1) in
      let lt : position_or_len p xs < length xs = rw place found.0 in
      subst (λ n. slice_split p xs ≡ take n xs ∷ slice_split p (drop (n + 1) xs)) place (slice_split_first p xs 0 lt)

  pub none_at : (xs : List ℕ) (b : Bool) → nat_lt (position_or_len p xs) (length xs) ≡ b → cond b (Some (position_or_len p xs)) None ≡ None → length xs ≤ position_or_len p xs
  none_at xs true e h = absurd (cc)
  none_at xs false e h = ltb-false _ _ e

  -- a text in which no byte passes is one part
  pub parts_none : (xs : List ℕ) → position p xs ≡ None → slice_split p xs ≡ xs ∷ []
  parts_none xs h =
      let past : length xs ≤ position_or_len p xs = none_at xs _ refl h in
      slice_split_none p xs (All-from_get_or (λ x. p x ≡ false) xs 0 (λ i l. fails_before_first p xs i 0 (omega arith)))

  -- a text has a part
  pub parts_some : (xs : List ℕ) → 0 < length (slice_split p xs)
  parts_some xs = omega (arith, length-slice_split p xs)

  -- the parts as the code cuts the text
  pub parts_cut : (xs : List ℕ) (i : ℕ) → position p xs ≡ Some i → slice_split p xs ≡ take i xs ∷ slice_split p (take (length xs - (i + 1)) (drop (i + 1) xs))
  parts_cut xs i h =
      let whole : take (length xs - (i + 1)) (drop (i + 1) xs) ≡ drop (i + 1) xs = take_all _ (drop (i + 1) xs) (omega (arith, length-drop (i + 1) xs)) in
      rw whole (parts_found xs i h)
