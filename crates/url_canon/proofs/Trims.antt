-- What is taken off the ends of a list.
use Rattle.std.proofs.Common.{◌≡◌, ℕ, ◌+◌, ◌-◌, ◌≤◌, ◌<◌, List, [], ◌∷◌, ◌++◌, Bool, true, false, length, take, drop, get_or, reverse, sym, ap, ◌∙◌, arith}
use Rattle.std.specs.List.{prefix_len}
use Rattle.std.proofs.Math.Numerals.{one-add}
use Rattle.std.proofs.lemmas.Bool.{cond-true, cond-false}
use Rattle.std.proofs.lemmas.List.{reverse-append, reverse-reverse, take_more}
use Rattle.url_canon.specs.Words.{without_leading, without_trailing}

pub without_leading-yes : {X : Type 0} (p : X → Bool) (x : X) (xs : List X) → p x ≡ true → without_leading p (x ∷ xs) ≡ without_leading p xs
without_leading-yes p x xs e =
    ap (λ n. drop n (x ∷ xs)) (cond-true (p x) (1 + prefix_len p xs) 0 e ∙ one-add (prefix_len p xs))

pub without_leading-not : {X : Type 0} (p : X → Bool) (x : X) (xs : List X) → p x ≡ false → without_leading p (x ∷ xs) ≡ x ∷ xs
without_leading-not p x xs e = ap (λ n. drop n (x ∷ xs)) (cond-false (p x) (1 + prefix_len p xs) 0 e)

back : {X : Type 0} (xs : List X) (x : X) → reverse (xs ++ x ∷ []) ≡ x ∷ reverse xs
back xs x = reverse-append xs (x ∷ [])

pub without_trailing-yes : {X : Type 0} (p : X → Bool) (xs : List X) (x : X) → p x ≡ true → without_trailing p (xs ++ x ∷ []) ≡ without_trailing p xs
without_trailing-yes p xs x e =
    ap (λ r. reverse (without_leading p r)) (back xs x) ∙ ap reverse (without_leading-yes p x (reverse xs) e)

pub without_trailing-not : {X : Type 0} (p : X → Bool) (xs : List X) (x : X) → p x ≡ false → without_trailing p (xs ++ x ∷ []) ≡ xs ++ x ∷ []
without_trailing-not p xs x e =
    ap (λ r. reverse (without_leading p r)) (back xs x) ∙ (ap reverse (without_leading-not p x (reverse xs) e ∙ sym (back xs x)) ∙ reverse-reverse (xs ++ x ∷ []))

front : (xs : List ℕ) (n : ℕ) → 0 < n → n ≤ length xs → take n xs ≡ take (n - 1) xs ++ get_or xs (n - 1) 0 ∷ []
front xs n some within = let next : n ≡ (n - 1) + 1 = omega arith in ap (λ k. take k xs) next ∙ take_more xs (n - 1) 0 (omega arith)

-- the last of the first n passes, or does not
pub trailing_more : (p : ℕ → Bool) (xs : List ℕ) (n : ℕ) → 0 < n → n ≤ length xs → p (get_or xs (n - 1) 0) ≡ true → without_trailing p (take (n - 1) xs) ≡ without_trailing p (take n xs)
trailing_more p xs n some within e =
    sym (ap (without_trailing p) (front xs n some within) ∙ without_trailing-yes p (take (n - 1) xs) (get_or xs (n - 1) 0) e)

pub trailing_ends : (p : ℕ → Bool) (xs : List ℕ) (n : ℕ) → 0 < n → n ≤ length xs → p (get_or xs (n - 1) 0) ≡ false → without_trailing p (take n xs) ≡ take n xs
trailing_ends p xs n some within e =
    ap (without_trailing p) (front xs n some within) ∙ (without_trailing-not p (take (n - 1) xs) (get_or xs (n - 1) 0) e ∙ sym (front xs n some within))
