-- Filters one after the other.
use Rattle.std.proofs.Common.{◌≡◌, List, [], ◌∷◌, Bool, true, false, not, cond, refl, ap}
use Rattle.std.specs.List.{filter}

commuted_at : {A : Type 0} (p : A → Bool) (b c : Bool) (x : A) (xs : List A) (q : A → Bool) → p x ≡ b → q x ≡ c → filter p (filter q xs) ≡ filter q (filter p xs)
    → filter p (cond c (x ∷ filter q xs) (filter q xs)) ≡ filter q (cond b (x ∷ filter p xs) (filter p xs))
commuted_at p true true x xs q e f more = rw (e, f) (ap (λ ys. x ∷ ys) more)
commuted_at p true false x xs q e f more = rw f more
commuted_at p false true x xs q e f more = rw e more
commuted_at p false false x xs q e f more = more

pub filters_commute : {A : Type 0} (p q : A → Bool) (xs : List A) → filter p (filter q xs) ≡ filter q (filter p xs)
filters_commute p q [] = refl
filters_commute p q (x ∷ xs) = commuted_at p (p x) (q x) x xs q refl refl (filters_commute p q xs)

dropped_at : {A : Type 0} (p : A → Bool) (x : A) (before after : List A) (b c : Bool) → p x ≡ c → (b ≡ true → c ≡ false) → filter p after ≡ filter p before
    → filter p (cond (not b) (x ∷ after) after) ≡ cond c (x ∷ filter p before) (filter p before)
dropped_at p x before after true true e h more = let no = h refl in absurd (cc)
dropped_at p x before after true false e h more = more
dropped_at p x before after false true e h more = rw e (ap (λ ys. x ∷ ys) more)
dropped_at p x before after false false e h more = rw e more

-- what goes does not pass
pub others_left : {A : Type 0} (p q : A → Bool) → ((x : A) → q x ≡ true → p x ≡ false) → (xs : List A) → filter p (filter (λ x. not (q x)) xs) ≡ filter p xs
others_left p q h [] = refl
others_left p q h (x ∷ xs) = dropped_at p x xs (filter (λ y. not (q y)) xs) (q x) (p x) refl (h x) (others_left p q h xs)

inner_at : {A : Type 0} (q : A → Bool) (x : A) (before after : List A) (b c : Bool) → q x ≡ b → (b ≡ true → c ≡ true) → filter q after ≡ filter q before
    → filter q (cond c (x ∷ after) after) ≡ cond b (x ∷ filter q before) (filter q before)
inner_at q x before after true true e h more = rw e (ap (λ ys. x ∷ ys) more)
inner_at q x before after true false e h more = let yes = h refl in absurd (cc)
inner_at q x before after false true e h more = rw e more
inner_at q x before after false false e h more = more

-- all that pass the one pass the other
pub passes_both : {A : Type 0} (p q : A → Bool) → ((x : A) → q x ≡ true → p x ≡ true) → (xs : List A) → filter q (filter p xs) ≡ filter q xs
passes_both p q h [] = refl
passes_both p q h (x ∷ xs) = inner_at q x xs (filter p xs) (q x) (p x) refl (h x) (passes_both p q h xs)
