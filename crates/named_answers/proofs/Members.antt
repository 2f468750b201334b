-- Members of lists that are made from others.
use Rattle.std.proofs.Common.{◌≡◌, zero, suc, ◌⊎◌, inl, inr, Bool, true, false, cond, List, [], ◌∷◌, ◌++◌, map, filter, flat_map, Contains, Option, Some, None, refl, sym, subst, arith}
use Rattle.std.specs.List.{cons_option, filter_map}
use Rattle.std.proofs.lemmas.List.Elements.{Contains-append_left, Contains-append_right}

here : {A : Type 0} (x : A) (xs : List A) → Contains (x ∷ xs) x
here x xs = (0, omega arith, refl)

there : {A : Type 0} (y x : A) (xs : List A) → Contains xs x → Contains (y ∷ xs) x
there y x xs h = (suc h.0, omega (arith, h.1), h.2)

pub cases : {A : Type 0} (y x : A) (xs : List A) → Contains (y ∷ xs) x → (y ≡ x) ⊎ Contains xs x
cases y x xs (zero, below, is) = inl is
cases y x xs (suc k, below, is) = inr (k, omega (arith, below), is)

pub nothing : {A : Type 0} (x : A) → Contains [] x → ⊥
nothing x h = omega (arith, h.1)

-- ---- lists one after the other

from_append : {A : Type 0} (xs ys : List A) (x : A) → Contains (xs ++ ys) x → Contains xs x ⊎ Contains ys x
from_append [] ys x h = inr h
from_append (y ∷ xs) ys x h = elim (cases y x (xs ++ ys) h) [
  | inl same ↦ inl (subst (Contains (y ∷ xs)) same (here y xs))
  | inr later ↦ elim (from_append xs ys x later) [
    | inl front ↦ inl (there y x xs front)
    | inr back ↦ inr back
  ]
]

pub in_flat_map : {A B : Type 0} (f : A → List B) (xs : List A) (x : A) (y : B) → Contains xs x → Contains (f x) y → Contains (flat_map f xs) y
in_flat_map f [] x y h k = absurd (nothing x h)
in_flat_map f (z ∷ xs) x y h k = elim (cases z x xs h) [
  | inl same ↦ Contains-append_left (f z) (flat_map f xs) y (subst (λ w. Contains (f w) y) (sym same) k)
  | inr later ↦ Contains-append_right (f z) (flat_map f xs) y (in_flat_map f xs x y later k)
]

pub from_flat_map : {A B : Type 0} (f : A → List B) (xs : List A) (y : B) → Contains (flat_map f xs) y → (x : A) × Contains xs x × Contains (f x) y
from_flat_map f [] y h = absurd (nothing y h)
from_flat_map f (z ∷ xs) y h = elim (from_append (f z) (flat_map f xs) y h) [
  | inl front ↦ (z, here z xs, front)
  | inr back ↦ let found = from_flat_map f xs y back in (found.0, there z found.0 xs found.1, found.2)
]

-- ---- each item changed

pub in_map : {A B : Type 0} (f : A → B) (xs : List A) (x : A) → Contains xs x → Contains (map f xs) (f x)
in_map f [] x h = absurd (nothing x h)
in_map f (z ∷ xs) x h = elim (cases z x xs h) [
  | inl same ↦ subst (λ w. Contains (map f (z ∷ xs)) (f w)) same (here (f z) (map f xs))
  | inr later ↦ there (f z) (f x) (map f xs) (in_map f xs x later)
]

pub from_map : {A B : Type 0} (f : A → B) (xs : List A) (y : B) → Contains (map f xs) y → (x : A) × Contains xs x × (f x ≡ y)
from_map f [] y h = absurd (nothing y h)
from_map f (z ∷ xs) y h = elim (cases (f z) y (map f xs) h) [
  | inl same ↦ (z, here z xs, same)
  | inr later ↦ let found = from_map f xs y later in (found.0, there z found.0 xs found.1, found.2)
]

-- ---- the items that pass a test

pub in_filter : {A : Type 0} (p : A → Bool) (xs : List A) (x : A) → Contains xs x → p x ≡ true → Contains (filter p xs) x
in_filter p [] x h k = absurd (nothing x h)
in_filter {A = A} p (z ∷ xs) x h k = go (p z) refl (cases z x xs h) (λ later. in_filter p xs x later k)
  where
    go : (b : Bool) → p z ≡ b → (z ≡ x) ⊎ Contains xs x → (Contains xs x → Contains (filter p xs) x) → Contains (cond b (z ∷ filter p xs) (filter p xs)) x
    go true e (inl same) more = subst (Contains (z ∷ filter p xs)) same (here z (filter p xs))
    go true e (inr later) more = there z x (filter p xs) (more later)
    go false e (inl same) more = absurd (cc (e, same, k))
    go false e (inr later) more = more later

pub from_filter : {A : Type 0} (p : A → Bool) (xs : List A) (x : A) → Contains (filter p xs) x → Contains xs x × (p x ≡ true)
from_filter p [] x h = absurd (nothing x h)
from_filter {A = A} p (z ∷ xs) x h = go (p z) refl h (from_filter p xs x)
  where
    go : (b : Bool) → p z ≡ b → Contains (cond b (z ∷ filter p xs) (filter p xs)) x → (Contains (filter p xs) x → Contains xs x × (p x ≡ true))
        → Contains (z ∷ xs) x × (p x ≡ true)
    go true e k more = elim (cases z x (filter p xs) k) [
      | inl same ↦ (subst (Contains (z ∷ xs)) same (here z xs), subst (λ w. p w ≡ true) same e)
      | inr later ↦ (there z x xs (more later).0, (more later).1)
    ]
    go false e k more = (there z x xs (more k).0, (more k).1)

-- ---- what is given of items

pub in_filter_map : {A B : Type 0} (f : A → Option B) (xs : List A) (x : A) (y : B) → Contains xs x → f x ≡ Some y → Contains (filter_map f xs) y
in_filter_map f [] x y h k = absurd (nothing x h)
in_filter_map {A = A} {B = B} f (z ∷ xs) x y h k = go (f z) refl (cases z x xs h) (λ later. in_filter_map f xs x y later k)
  where
    go : (o : Option B) → f z ≡ o → (z ≡ x) ⊎ Contains xs x → (Contains xs x → Contains (filter_map f xs) y) → Contains (cons_option o (filter_map f xs)) y
    go None e (inl same) more = absurd (cc (e, same, k))
    go None e (inr later) more = more later
    go (Some w) e (inl same) more = let is : w ≡ y = cc (e, same, k) in subst (λ v. Contains (w ∷ filter_map f xs) v) is (here w (filter_map f xs))
    go (Some w) e (inr later) more = there w y (filter_map f xs) (more later)

pub from_filter_map : {A B : Type 0} (f : A → Option B) (xs : List A) (y : B) → Contains (filter_map f xs) y → (x : A) × Contains xs x × (f x ≡ Some y)
from_filter_map f [] y h = absurd (nothing y h)
from_filter_map {A = A} {B = B} f (z ∷ xs) y h = go (f z) refl h (from_filter_map f xs y)
  where
    go : (o : Option B) → f z ≡ o → Contains (cons_option o (filter_map f xs)) y → (Contains (filter_map f xs) y → (x : A) × Contains xs x × (f x ≡ Some y))
        → (x : A) × Contains (z ∷ xs) x × (f x ≡ Some y)
    go None e k more = let found = more k in (found.0, there z found.0 xs found.1, found.2)
    go (Some w) e k more = elim (cases w y (filter_map f xs) k) [
      | inl same ↦ let is : f z ≡ Some y = cc (e, same) in (z, here z xs, is)
      | inr later ↦ let found = more later in (found.0, there z found.0 xs found.1, found.2)
    ]
