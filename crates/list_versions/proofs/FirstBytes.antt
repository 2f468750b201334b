-- What a search for the first byte that passes a test tells.
use Rattle.std.proofs.Common.{◌≡◌, ℕ, List, Bool, true, false, cond, length, refl, sym, Option, Some, None, arith, nat_lt}
use Rattle.std.specs.Prelude.{position}
use Rattle.std.specs.List.{position_or_len}
use Rattle.std.proofs.lemmas.List.Sums.{position_or_len_is}
use Rattle.memchr.specs.Find.{IsFirstByte}

module _ (p : ℕ → Bool) where
  fails : (b : ℕ) (t : Bool) → p b ≡ t → (p b ≡ true → ⊥) → p b ≡ false
  fails b true e h = absurd (h e)
  fails b false e h = e

  told : (xs : List ℕ) (i : ℕ) (b : Bool) → nat_lt i (length xs) ≡ b → position_or_len p xs ≡ i → position p xs ≡ cond b (Some i) None
  told xs i b e h = rw h (rw e refl)

  -- the first place whose byte passes is the position of the first such byte
  pub first_is_position : (xs : List ℕ) (r : Option ℕ) → IsFirstByte p xs r → r ≡ position p xs
  first_is_position xs None h =
      let place : position_or_len p xs ≡ length xs = position_or_len_is p xs (length xs) 0 (omega arith) (λ k l. fails _ _ refl (h k (omega arith) l)) (λ l. absurd (omega arith)) in
      sym (told xs (length xs) false (grind arith) place)
  first_is_position xs (Some i) h =
      let place : position_or_len p xs ≡ i = position_or_len_is p xs i 0 (omega (arith, h.0.high)) (λ k l. fails _ _ refl (h.0.before k (omega arith) l)) (λ l. h.1) in
      sym (told xs i true (grind (arith, h.0.high)) place)
