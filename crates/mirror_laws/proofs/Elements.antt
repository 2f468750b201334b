-- What a search finds, and what holds of an element of a list.
use Rattle.std.proofs.Common.{◌≡◌, ℕ, zero, suc, ◌+◌, ◌<◌, ◌≤◌, List, [], ◌∷◌, Bool, true, false, cond, length, get_or, refl, ap, sym, subst, ◌∙◌, arith, Option, Some, None}
use Rattle.std.specs.Prelude.{All, Contains, find, slice_get}
use Rattle.std.specs.List.{range_with_len}
use Rattle.std.proofs.lemmas.Option.{get_or_from_slice_get, slice_get_within}

-- what is found stands in the list and passes
pub found_by : {X : Type 0} (p : X → Bool) (xs : List X) (x : X) → find p xs ≡ Some x → Contains xs x × (p x ≡ true)
found_by p [] x h = absurd (cc)
found_by p (y ∷ ys) x h = go (p y) refl h (found_by p ys x)
  where
    go : (b : Bool) → p y ≡ b → cond b (Some y) (find p ys) ≡ Some x → (find p ys ≡ Some x → Contains ys x × (p x ≡ true)) → Contains (y ∷ ys) x × (p x ≡ true)
    go true e k more = let same : y ≡ x = cc in ((0, omega arith, same), ap p (sym same) ∙ e)
    go false e k more = let found = more k in ((suc found.0.0, omega (arith, found.0.1), found.0.2), found.1)

module _ {X : Type 0} (p : X → Bool) (xs : List X) (never : (x : X) → Contains xs x → p x ≡ true → ⊥) where
  -- where no element passes
  pub none_found : find p xs ≡ None
  none_found = go (find p xs) refl
    where
      go : (found : Option X) → find p xs ≡ found → find p xs ≡ None
      go None e = e
      go (Some x) e = let there = found_by p xs x e in absurd (never x there.0 there.1)

-- a number of a range is between its ends
pub from_range : (v a n : ℕ) → Contains (range_with_len a n) v → (a ≤ v) × (v < a + n)
from_range v a n c = at n a c.0 c.1 c.2
  where
    at : (n a k : ℕ) → k < length (range_with_len a n) → get_or (range_with_len a n) k v ≡ v → (a ≤ v) × (v < a + n)
    at zero a k below is = absurd (omega (arith, below))
    at (suc n) a zero below is = (omega (arith, is), omega (arith, is))
    at (suc n) a (suc k) below is = let more = at n (a + 1) k (omega (arith, below)) is in (omega (arith, more.0), omega (arith, more.1))

pub all_at : {X : Type 0} (P : X → Type 0) (xs : List X) (i : ℕ) (x : X) → All P xs → slice_get xs i ≡ Some x → P x
all_at P xs i x all is = subst P (get_or_from_slice_get xs i x x is) (all i x (slice_get_within xs i x is))
