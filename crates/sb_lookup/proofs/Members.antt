-- Members of lists that are made from others.
use Rattle.std.proofs.Common.{◌≡◌, zero, suc, ◌⊎◌, inl, inr, ◌||◌, Bool, true, false, cond, List, [], ◌∷◌, map, filter, Contains, refl, ap, subst, arith}
use Rattle.std.specs.List.{list_any}

pub here : {A : Type 0} (x : A) (xs : List A) → Contains (x ∷ xs) x
here x xs = (0, omega arith, refl)

pub there : {A : Type 0} (y x : A) (xs : List A) → Contains xs x → Contains (y ∷ xs) x
there y x xs h = (suc h.0, omega (arith, h.1), h.2)

cases : {A : Type 0} (y x : A) (xs : List A) → Contains (y ∷ xs) x → (y ≡ x) ⊎ Contains xs x
cases y x xs (zero, below, is) = inl is
cases y x xs (suc k, below, is) = inr (k, omega (arith, below), is)

nothing : {A : Type 0} (x : A) → Contains [] x → ⊥
nothing x h = omega (arith, h.1)

pub in_map : {A B : Type 0} (f : A → B) (xs : List A) (x : A) → Contains xs x → Contains (map f xs) (f x)
in_map f [] x h = absurd (nothing x h)
in_map f (z ∷ xs) x h = elim (cases z x xs h) [
  | inl same ↦ subst (λ w. Contains (map f (z ∷ xs)) (f w)) same (here (f z) (map f xs))
  | inr later ↦ there (f z) (f x) (map f xs) (in_map f xs x later)
]

pub from_map : {A B : Type 0} (f : A → B) (xs : List A) (y : B) → Contains (map f xs) y → (x : A) × Contains xs x × (f x ≡ y)
from_map f [] y h = absurd (nothing y h)
from_map f (z ∷ xs) y h = elim (cases (f z) y (map f xs) h) [
  | inl same ↦ (z, here z xs, same)
  | inr later ↦ let found = from_map f xs y later in (found.0, there z found.0 xs found.1, found.2)
]

pub in_filter : {A : Type 0} (p : A → Bool) (xs : List A) (x : A) → Contains xs x → p x ≡ true → Contains (filter p xs) x
in_filter p [] x h k = absurd (nothing x h)
in_filter {A = A} p (z ∷ xs) x h k = go (p z) refl (cases z x xs h) (λ later. in_filter p xs x later k)
  where
    go : (b : Bool) → p z ≡ b → (z ≡ x) ⊎ Contains xs x → (Contains xs x → Contains (filter p xs) x) → Contains (cond b (z ∷ filter p xs) (filter p xs)) x
    go true e (inl same) more = subst (Contains (z ∷ filter p xs)) same (here z (filter p xs))
    go true e (inr later) more = there z x (filter p xs) (more later)
    go false e (inl same) more = absurd (cc (e, same, k))
    go false e (inr later) more = more later

pub from_filter : {A : Type 0} (p : A → Bool) (xs : List A) (x : A) → Contains (filter p xs) x → Contains xs x × (p x ≡ true)
from_filter p [] x h = absurd (nothing x h)
from_filter {A = A} p (z ∷ xs) x h = go (p z) refl h (from_filter p xs x)
  where
    go : (b : Bool) → p z ≡ b → Contains (cond b (z ∷ filter p xs) (filter p xs)) x → (Contains (filter p xs) x → Contains xs x × (p x ≡ true)) → Contains (z ∷ xs) x × (p x ≡ true)
    go true e k more = elim (cases z x (filter p xs) k) [
      | inl same ↦ (subst (Contains (z ∷ xs)) same (here z xs), subst (λ w. p w ≡ true) same e)
      | inr later ↦ let both = more later in (there z x xs both.0, both.1)
    ]
    go false e k more = let both = more k in (there z x xs both.0, both.1)

pub any_there : {A : Type 0} (p : A → Bool) (xs : List A) (x : A) → Contains xs x → p x ≡ true → list_any p xs ≡ true
any_there p [] x h k = absurd (nothing x h)
any_there {A = A} p (z ∷ xs) x h k = go (p z) refl (cases z x xs h) (λ later. any_there p xs x later k)
  where
    go : (b : Bool) → p z ≡ b → (z ≡ x) ⊎ Contains xs x → (Contains xs x → list_any p xs ≡ true) → (b || list_any p xs) ≡ true
    go true e at more = refl
    go false e (inl same) more = absurd (cc (e, same, k))
    go false e (inr later) more = more later

pub any_found : {A : Type 0} (p : A → Bool) (xs : List A) → list_any p xs ≡ true → (x : A) × Contains xs x × (p x ≡ true)
any_found p [] h = absurd (cc h)
any_found {A = A} p (z ∷ xs) h = go (p z) refl h (any_found p xs)
  where
    go : (b : Bool) → p z ≡ b → (b || list_any p xs) ≡ true → (list_any p xs ≡ true → (x : A) × Contains xs x × (p x ≡ true)) → (x : A) × Contains (z ∷ xs) x × (p x ≡ true)
    go true e k more = (z, here z xs, e)
    go false e k more = let found = more k in (found.0, there z found.0 xs found.1, found.2)

-- ---- one filter twice

-- a filter that was applied changes nothing when it is applied again
pub filter_again : {A : Type 0} (p : A → Bool) (xs : List A) → filter p (filter p xs) ≡ filter p xs
filter_again p [] = refl
filter_again {A = A} p (z ∷ xs) = go (p z) refl (filter_again p xs)
  where
    go : (b : Bool) → p z ≡ b → filter p (filter p xs) ≡ filter p xs → filter p (cond b (z ∷ filter p xs) (filter p xs)) ≡ cond b (z ∷ filter p xs) (filter p xs)
    go true e rest = rw e (ap (λ (ys : List A). z ∷ ys) rest)
    go false e rest = rest
