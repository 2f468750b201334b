-- What a search for a byte finds.
use Rattle.std.proofs.Common.{◌≡◌, ℕ, suc, ◌<◌, List, [], ◌∷◌, Bool, false, eqb, ltb, length, get_or, take, Option, Some, None, refl, ap, ◌∙◌, arith}
use Rattle.std.specs.List.{list_any, position, position_or_len}
use Rattle.std.proofs.lemmas.Bool.{false_from_ne_true, cond-true, cond-false, lt-ltb, le-ltb, or_from}
use Rattle.std.proofs.lemmas.List.{length-take-le, get_or-take}
use Rattle.std.proofs.lemmas.List.Sums.{position_or_len_is}
use Rattle.memchr.specs.Find.{IsFirstByte}

abbrev pub Lacks : (ℕ → Bool) → List ℕ → Type 0
Lacks p xs = list_any p xs ≡ false

abbrev pub is_slash : ℕ → Bool
is_slash byte = eqb byte 47

pub lacks_from : (p : ℕ → Bool) (xs : List ℕ) → ((i : ℕ) → i < length xs → p (get_or xs i 0) ≡ false) → Lacks p xs
lacks_from p [] h = refl
lacks_from p (x ∷ xs) h = or_from (p x) (list_any p xs) (h 0 (omega arith)) (lacks_from p xs (λ i lt. h (suc i) (omega arith)))

pub found_position : (p : ℕ → Bool) (xs : List ℕ) (r : Option ℕ) → IsFirstByte p xs r → position p xs ≡ r
found_position p xs None h =
    let place : position_or_len p xs ≡ length xs = position_or_len_is p xs (length xs) 0 (omega arith) (λ k lt. false_from_ne_true (p (get_or xs k 0)) (h k (omega arith) lt)) (λ lt. absurd (omega arith)) in
    cond-false (ltb (position_or_len p xs) (length xs)) (Some (position_or_len p xs)) None (le-ltb (position_or_len p xs) (length xs) (omega arith))
found_position p xs (Some k) h =
    let inside = h.0.high in
    let place : position_or_len p xs ≡ k = position_or_len_is p xs k 0 (omega arith) (λ j lt. false_from_ne_true (p (get_or xs j 0)) (h.0.before j (omega arith) lt)) (λ _. h.1) in
    cond-true (ltb (position_or_len p xs) (length xs)) (Some (position_or_len p xs)) None (lt-ltb (position_or_len p xs) (length xs) (omega arith)) ∙ ap Some place

pub lacks_all : (p : ℕ → Bool) (xs : List ℕ) → IsFirstByte p xs None → Lacks p xs
lacks_all p xs h = lacks_from p xs (λ k lt. false_from_ne_true (p (get_or xs k 0)) (h k (omega arith) lt))

pub lacks_before : (p : ℕ → Bool) (xs : List ℕ) (k : ℕ) → IsFirstByte p xs (Some k) → Lacks p (take k xs)
lacks_before p xs k h =
    let inside = h.0.high in
    let len = length-take-le k xs (omega arith) in
    lacks_from p (take k xs) (λ i lt. ap p (get_or-take k xs i 0 (omega arith)) ∙ false_from_ne_true (p (get_or xs i 0)) (h.0.before i (omega arith) (omega arith)))
