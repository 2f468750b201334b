-- What is in a list, by recursion on it.
use Rattle.std.proofs.Common.{◌≡◌, ℕ, zero, suc, ◌+◌, ◌<◌, ◌≤◌, ◌⊎◌, inl, inr, Bool, true, false, cond, List, [], ◌∷◌, ◌++◌, length, map, get_or, refl, sym, ap, subst, ◌∙◌, arith, Some, None}
use Rattle.std.specs.Prelude.{Contains, filter}
use Rattle.std.specs.List.{find, flat_map, range_with_len}
use Rattle.std.proofs.lemmas.Bool.{cases_eq}

abbrev pub In : {X : Type 0} → X → List X → Type 0
In x [] = ⊥
In x (y ∷ ys) = (y ≡ x) ⊎ In x ys

pub contains_in : {X : Type 0} (x : X) (xs : List X) → In x xs → Contains xs x
contains_in x [] h = absurd h
contains_in x (y ∷ ys) (inl e) = (0, omega arith, e)
contains_in x (y ∷ ys) (inr h) = let c : Contains ys x = contains_in x ys h in (suc c.0, omega (arith, c.1), c.2)

in_at : {X : Type 0} (x : X) (xs : List X) (k : ℕ) → k < length xs → get_or xs k x ≡ x → In x xs
in_at x [] k below e = absurd (omega arith)
in_at x (y ∷ ys) zero below e = inl e
in_at x (y ∷ ys) (suc k) below e = inr (in_at x ys k (omega (arith, below)) e)

pub in_contained : {X : Type 0} (x : X) (xs : List X) → Contains xs x → In x xs
in_contained x xs c = in_at x xs c.0 c.1 c.2

-- ---- lists one after the other

pub in_left : {X : Type 0} (x : X) (xs ys : List X) → In x xs → In x (xs ++ ys)
in_left x [] ys h = absurd h
in_left x (z ∷ xs) ys (inl e) = inl e
in_left x (z ∷ xs) ys (inr h) = inr (in_left x xs ys h)

pub in_right : {X : Type 0} (x : X) (xs ys : List X) → In x ys → In x (xs ++ ys)
in_right x [] ys h = h
in_right x (z ∷ xs) ys h = inr (in_right x xs ys h)

pub in_either : {X : Type 0} (x : X) (xs ys : List X) → In x (xs ++ ys) → In x xs ⊎ In x ys
in_either x [] ys h = inr h
in_either x (z ∷ xs) ys (inl e) = inl (inl e)
in_either x (z ∷ xs) ys (inr h) = elim (in_either x xs ys h) [ inl a ↦ inl (inr a) | inr b ↦ inr b ]

pub in_flat_map : {S X : Type 0} (f : S → List X) (x : X) (s : S) (ss : List S) → In s ss → In x (f s) → In x (flat_map f ss)
in_flat_map f x s [] there h = absurd there
in_flat_map f x s (t ∷ ss) (inl e) h = in_left x (f t) (flat_map f ss) (subst (λ (u : _). In x (f u)) (sym e) h)
in_flat_map f x s (t ∷ ss) (inr there) h = in_right x (f t) (flat_map f ss) (in_flat_map f x s ss there h)

pub from_flat_map : {S X : Type 0} (f : S → List X) (x : X) (ss : List S) → In x (flat_map f ss) → (s : S) × In s ss × In x (f s)
from_flat_map f x [] h = absurd h
from_flat_map f x (t ∷ ss) h = elim (in_either x (f t) (flat_map f ss) h) [
  | inl here ↦ (t, inl refl, here)
  | inr more ↦ let found = from_flat_map f x ss more in (found.0, inr found.1, found.2)
]

-- ---- functions and tests

pub in_map : {X Y : Type 0} (f : X → Y) (x : X) (xs : List X) → In x xs → In (f x) (map f xs)
in_map f x [] h = absurd h
in_map f x (y ∷ ys) (inl e) = inl (ap f e)
in_map f x (y ∷ ys) (inr h) = inr (in_map f x ys h)

pub from_map : {X Y : Type 0} (f : X → Y) (y : Y) (xs : List X) → In y (map f xs) → (x : X) × In x xs × (f x ≡ y)
from_map f y [] h = absurd h
from_map f y (x ∷ xs) (inl e) = (x, inl refl, e)
from_map f y (x ∷ xs) (inr h) = let found = from_map f y xs h in (found.0, inr found.1, found.2)

pub in_filter : {X : Type 0} (p : X → Bool) (x : X) (xs : List X) → In x xs → p x ≡ true → In x (filter p xs)
in_filter p x [] h t = absurd h
in_filter p x (y ∷ ys) h t = go (p y) refl h (λ more. in_filter p x ys more t)
  where
    go : (b : Bool) → p y ≡ b → (y ≡ x) ⊎ In x ys → (In x ys → In x (filter p ys)) → In x (cond b (y ∷ filter p ys) (filter p ys))
    go true e (inl same) more = inl same
    go true e (inr k) more = inr (more k)
    go false e (inl same) more = absurd (cc)
    go false e (inr k) more = more k

pub from_filter : {X : Type 0} (p : X → Bool) (x : X) (xs : List X) → In x (filter p xs) → In x xs × (p x ≡ true)
from_filter p x [] h = absurd h
from_filter p x (y ∷ ys) h = go (p y) refl h (from_filter p x ys)
  where
    go : (b : Bool) → p y ≡ b → In x (cond b (y ∷ filter p ys) (filter p ys)) → (In x (filter p ys) → In x ys × (p x ≡ true))
        → ((y ≡ x) ⊎ In x ys) × (p x ≡ true)
    go true e (inl same) more = (inl same, ap p (sym same) ∙ e)
    go true e (inr k) more = (inr (more k).0, (more k).1)
    go false e k more = (inr (more k).0, (more k).1)

-- ---- numbers from one on

pub in_range : (v a n : ℕ) → a ≤ v → v < a + n → In v (range_with_len a n)
in_range v a zero low high = absurd (omega arith)
in_range v a (suc n) low high = elim (cases_eq a v) [
  | inl e ↦ inl e
  | inr ne ↦ inr (in_range v (a + 1) n (omega arith) (omega arith))
]

pub from_range : (v a n : ℕ) → In v (range_with_len a n) → (a ≤ v) × (v < a + n)
from_range v a zero h = absurd h
from_range v a (suc n) (inl e) = (omega arith, omega arith)
from_range v a (suc n) (inr h) = let more = from_range v (a + 1) n h in (omega (arith, more.0), omega (arith, more.1))

-- ---- what a search finds

pub finds_none : {X : Type 0} (p : X → Bool) (xs : List X) → ((x : X) → In x xs → p x ≡ true → ⊥) → find p xs ≡ None
finds_none p [] none = refl
finds_none p (y ∷ ys) none = go (p y) refl (finds_none p ys (λ x h. none x (inr h)))
  where
    go : (b : Bool) → p y ≡ b → find p ys ≡ None → cond b (Some y) (find p ys) ≡ None
    go true is more = absurd (none y (inl refl) is)
    go false is more = more

pub finds_one : {X : Type 0} (p : X → Bool) (xs : List X) (v : X) → In v xs → p v ≡ true → ((x : X) → In x xs → p x ≡ true → x ≡ v) → find p xs ≡ Some v
finds_one p [] v there passes only = absurd there
finds_one p (y ∷ ys) v there passes only = go (p y) refl there (λ h. finds_one p ys v h passes (λ x k. only x (inr k)))
  where
    go : (b : Bool) → p y ≡ b → (y ≡ v) ⊎ In v ys → (In v ys → find p ys ≡ Some v) → cond b (Some y) (find p ys) ≡ Some v
    go true is h more = ap Some (only y (inl refl) is)
    go false is (inl same) more = absurd (cc)
    go false is (inr h) more = more h
