-- What is in a list, by recursion on it.
use Rattle.std.proofs.Common.{◌≡◌, ℕ, zero, suc, ◌<◌, ◌⊎◌, inl, inr, Bool, true, false, cond, List, [], ◌∷◌, ◌++◌, length, map, get_or, refl, sym, ap, subst, ◌∙◌, arith, Some}
use Rattle.std.specs.Prelude.{Contains, filter, slice_get}
use Rattle.std.specs.List.{flat_map}

abbrev pub In : {X : Type 0} → X → List X → Type 0
In x [] = ⊥
In x (y ∷ ys) = (y ≡ x) ⊎ In x ys

pub contains_in : {X : Type 0} (x : X) (xs : List X) → In x xs → Contains xs x
contains_in x [] h = absurd h
contains_in x (y ∷ ys) (inl e) = (0, omega arith, e)
contains_in x (y ∷ ys) (inr h) = let c : Contains ys x = contains_in x ys h in (suc c.0, omega (arith, c.1), c.2)

in_at : {X : Type 0} (x : X) (xs : List X) (k : ℕ) → k < length xs → get_or xs k x ≡ x → In x xs
in_at x [] k below e = absurd (omega arith)
in_at x (y ∷ ys) zero below e = inl e
in_at x (y ∷ ys) (suc k) below e = inr (in_at x ys k (omega (arith, below)) e)

pub in_contained : {X : Type 0} (x : X) (xs : List X) → Contains xs x → In x xs
in_contained x xs c = in_at x xs c.0 c.1 c.2

-- by places
pub place_of : {X : Type 0} (x : X) (xs : List X) → In x xs → (i : ℕ) × (slice_get xs i ≡ Some x)
place_of x [] h = absurd h
place_of x (y ∷ ys) (inl e) = (0, ap Some e)
place_of x (y ∷ ys) (inr h) = let p : (i : ℕ) × (slice_get ys i ≡ Some x) = place_of x ys h in (suc p.0, p.1)

pub in_place : {X : Type 0} (x : X) (xs : List X) (i : ℕ) → slice_get xs i ≡ Some x → In x xs
in_place x [] i h = absurd (cc)
in_place x (y ∷ ys) zero h = inl (cc)
in_place x (y ∷ ys) (suc i) h = inr (in_place x ys i h)

-- ---- parts of lists

pub in_left : {X : Type 0} (x : X) (xs ys : List X) → In x xs → In x (xs ++ ys)
in_left x [] ys h = absurd h
in_left x (z ∷ xs) ys (inl e) = inl e
in_left x (z ∷ xs) ys (inr h) = inr (in_left x xs ys h)

pub in_right : {X : Type 0} (x : X) (xs ys : List X) → In x ys → In x (xs ++ ys)
in_right x [] ys h = h
in_right x (z ∷ xs) ys h = inr (in_right x xs ys h)

pub in_either : {X : Type 0} (x : X) (xs ys : List X) → In x (xs ++ ys) → In x xs ⊎ In x ys
in_either x [] ys h = inr h
in_either x (z ∷ xs) ys (inl e) = inl (inl e)
in_either x (z ∷ xs) ys (inr h) = elim (in_either x xs ys h) [ inl a ↦ inl (inr a) | inr b ↦ inr b ]

pub in_flat_map : {S X : Type 0} (f : S → List X) (x : X) (s : S) (ss : List S) → In s ss → In x (f s) → In x (flat_map f ss)
in_flat_map f x s [] h k = absurd h
in_flat_map {S} {X} f x s (t ∷ ss) (inl e) k = in_left x (f t) (flat_map f ss) (let P : S → Type 0 = λ u. In x (f u) in subst P (sym e) k)
in_flat_map f x s (t ∷ ss) (inr h) k = in_right x (f t) (flat_map f ss) (in_flat_map f x s ss h k)

-- something of the list that shows as a value
pub record Shows {S : Type 0} (P : S → Type 0) (ss : List S) : Type 0 where
  pub item : S
  pub there : In item ss
  pub holds : P item

pub from_flat_map : {S X : Type 0} (f : S → List X) (x : X) (ss : List S) → In x (flat_map f ss) → Shows (λ s. In x (f s)) ss
from_flat_map f x [] h = absurd h
from_flat_map {S} {X} f x (s ∷ ss) h = elim (in_either x (f s) (flat_map f ss) h) [
  | inl a ↦ record { item = s; there = inl refl; holds = a }
  | inr b ↦ (let more : Shows (λ (s : S). In x (f s)) ss = from_flat_map f x ss b in record { item = more.item; there = inr more.there; holds = more.holds })
]

pub in_map : {S X : Type 0} (f : S → X) (s : S) (ss : List S) → In s ss → In (f s) (map f ss)
in_map f s [] h = absurd h
in_map f s (t ∷ ss) (inl e) = inl (ap f e)
in_map f s (t ∷ ss) (inr h) = inr (in_map f s ss h)

pub from_map : {S X : Type 0} (f : S → X) (x : X) (ss : List S) → In x (map f ss) → Shows (λ s. f s ≡ x) ss
from_map f x [] h = absurd h
from_map f x (s ∷ ss) (inl e) = record { item = s; there = inl refl; holds = e }
from_map {S} {X} f x (s ∷ ss) (inr h) = let more : Shows (λ (s : S). f s ≡ x) ss = from_map f x ss h in record { item = more.item; there = inr more.there; holds = more.holds }

filter_in : {X : Type 0} (p : X → Bool) (x y : X) (ys : List X) (b : Bool) → p y ≡ b → p x ≡ true → In x (y ∷ ys) → (In x ys → In x (filter p ys)) → In x (cond b (y ∷ filter p ys) (filter p ys))
filter_in p x y ys true e h (inl is) k = inl is
filter_in p x y ys true e h (inr there) k = inr (k there)
filter_in p x y ys false e h (inl is) k = absurd (let same = ap p is in cc)
filter_in p x y ys false e h (inr there) k = k there

pub in_filter : {X : Type 0} (p : X → Bool) (x : X) (xs : List X) → p x ≡ true → In x xs → In x (filter p xs)
in_filter p x [] h there = absurd there
in_filter p x (y ∷ ys) h there = filter_in p x y ys (p y) refl h there (in_filter p x ys h)

from_filter_at : {X : Type 0} (p : X → Bool) (x y : X) (ys : List X) (b : Bool) → p y ≡ b → In x (cond b (y ∷ filter p ys) (filter p ys)) → (In x (filter p ys) → In x ys × (p x ≡ true)) → In x (y ∷ ys) × (p x ≡ true)
from_filter_at p x y ys true e (inl is) k = (inl is, ap p (sym is) ∙ e)
from_filter_at p x y ys true e (inr h) k = let more = k h in (inr more.0, more.1)
from_filter_at p x y ys false e h k = let more = k h in (inr more.0, more.1)

pub from_filter : {X : Type 0} (p : X → Bool) (x : X) (xs : List X) → In x (filter p xs) → In x xs × (p x ≡ true)
from_filter p x [] h = absurd h
from_filter p x (y ∷ ys) h = from_filter_at p x y ys (p y) refl h (from_filter p x ys)
