-- Items by their places.
use Rattle.std.proofs.Common.{◌≡◌, ◌≢◌, ℕ, zero, suc, ◌<◌, ◌⊎◌, inl, inr, ⊎_elim, List, [], ◌∷◌, ◌++◌, length, set, refl, ap, arith}
use Rattle.std.specs.Prelude.{Some, slice_get}
use Rattle.std.proofs.lemmas.Option.{slice_get_within}

module _ {X : Type 0} where
  pub some_same : (x y : X) → Some x ≡ Some y → x ≡ y
  some_same x y e = cc

  pub get_more : (xs ys : List X) (k : ℕ) (x : X) → slice_get xs k ≡ Some x → slice_get (xs ++ ys) k ≡ Some x
  get_more [] ys k x e = absurd cc
  get_more (y ∷ xs) ys zero x e = e
  get_more (y ∷ xs) ys (suc k) x e = get_more xs ys k x e

  pub get_either : (xs : List X) (y : X) (k : ℕ) (x : X) → slice_get (xs ++ y ∷ []) k ≡ Some x → (slice_get xs k ≡ Some x) ⊎ ((k ≡ length xs) × (y ≡ x))
  get_either [] y zero x e = inr (refl, cc)
  get_either [] y (suc k) x e = absurd cc
  get_either (z ∷ xs) y zero x e = inl e
  get_either (z ∷ xs) y (suc k) x e = ⊎_elim (λ t. inl t) (λ t. inr (ap suc t.0, t.1)) (get_either xs y k x e)

  -- the item at a place within
  pub get_there : (xs : List X) (k : ℕ) → k < length xs → (x : X) × (slice_get xs k ≡ Some x)
  get_there [] k h = absurd (omega arith)
  get_there (x ∷ xs) zero h = (x, refl)
  get_there (x ∷ xs) (suc k) h = get_there xs k (omega arith)

  pub set_there : (xs : List X) (k : ℕ) (x y : X) → slice_get (set xs k x) k ≡ Some y → x ≡ y
  set_there [] k x y e = absurd cc
  set_there (z ∷ xs) zero x y e = cc
  set_there (z ∷ xs) (suc k) x y e = set_there xs k x y e

  pub set_other : (xs : List X) (k j : ℕ) (x : X) → j ≢ k → slice_get (set xs k x) j ≡ slice_get xs j
  set_other [] k j x away = refl
  set_other (z ∷ xs) zero zero x away = absurd (away refl)
  set_other (z ∷ xs) zero (suc j) x away = refl
  set_other (z ∷ xs) (suc k) zero x away = refl
  set_other (z ∷ xs) (suc k) (suc j) x away = set_other xs k j x (λ e. away (ap suc e))

  pub set_length : (xs : List X) (k : ℕ) (x : X) → length (set xs k x) ≡ length xs
  set_length [] k x = refl
  set_length (z ∷ xs) zero x = refl
  set_length (z ∷ xs) (suc k) x = ap suc (set_length xs k x)

  -- among the lines of a seat there is one where there is a check
  pub as_long : {Y : Type 0} (xs : List X) (ys : List Y) (k : ℕ) (y : Y) → length ys ≡ length xs → slice_get ys k ≡ Some y → (x : X) × (slice_get xs k ≡ Some x)
  as_long xs ys k y same e = get_there xs k (omega (arith, same, slice_get_within ys k y e))

  pub get_end : (xs : List X) (y : X) (k : ℕ) → k ≡ length xs → slice_get (xs ++ y ∷ []) k ≡ Some y
  get_end [] y zero e = refl
  get_end [] y (suc k) e = absurd (omega (arith, e))
  get_end (x ∷ xs) y zero e = absurd (omega (arith, e))
  get_end (x ∷ xs) y (suc k) e = get_end xs y k (omega (arith, e))
