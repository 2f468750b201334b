-- What a search for bytes finds.
use Rattle.std.proofs.Common.{◌≡◌, ℕ, ◌+◌, ◌<◌, List, [], ◌∷◌, Bool, true, false, ◌||◌, eqb, length, get_or, get_or-drop, take, drop, Option, Some, None, unwrap_or, refl, sym, ap, ◌∙◌, arith, length-drop}
use Rattle.std.specs.Option.{is_some}
use Rattle.std.specs.List.{list_any, position_or_len}
use Rattle.std.proofs.lemmas.Bool.{false_from_ne_true, lt-ltb, le-ltb}
use Rattle.std.proofs.lemmas.List.Sums.{position_or_len_is}
use Rattle.memchr.specs.Find.{IsFirstByte, IsLastByte, is_byte3}
use Rattle.url_canon.specs.Cleaning.{is_line_byte}
use Rattle.url_canon.proofs.Splits.{Lacks}
use Rattle.url_canon.proofs.Cuts.{any_from_place, none-before_first}

pub first_place : (p : ℕ → Bool) (xs : List ℕ) (r : Option ℕ) → IsFirstByte p xs r → unwrap_or r (length xs) ≡ position_or_len p xs
first_place p xs None h =
    sym (position_or_len_is p xs (length xs) 0 (omega arith) (λ k lt. false_from_ne_true (p (get_or xs k 0)) (h k (omega arith) lt)) (λ lt. absurd (omega arith)))
first_place p xs (Some k) h =
    let inside = h.0.high in
    sym (position_or_len_is p xs k 0 (omega arith) (λ j lt. false_from_ne_true (p (get_or xs j 0)) (h.0.before j (omega arith) lt)) (λ _. h.1))

pub found_any : (p : ℕ → Bool) (xs : List ℕ) (r : Option ℕ) → IsFirstByte p xs r → is_some r ≡ list_any p xs
found_any p xs None h =
    let place = first_place p xs None h in
    sym (any_from_place p xs ∙ le-ltb (position_or_len p xs) (length xs) (omega arith))
found_any p xs (Some k) h =
    let inside = h.0.high in
    let place = first_place p xs (Some k) h in
    sym (any_from_place p xs ∙ lt-ltb (position_or_len p xs) (length xs) (omega arith))

-- nothing before the first
pub lacks_before : (p : ℕ → Bool) (xs : List ℕ) (k : ℕ) → IsFirstByte p xs (Some k) → Lacks p (take k xs)
lacks_before p xs k h =
    ap (λ n. list_any p (take n xs)) (first_place p xs (Some k) h) ∙ none-before_first p xs

pub lacks_from : (p : ℕ → Bool) (xs : List ℕ) → ((i : ℕ) → i < length xs → p (get_or xs i 0) ≡ false) → Lacks p xs
lacks_from p xs h =
    let place = position_or_len_is p xs (length xs) 0 (omega arith) h (λ lt. absurd (omega arith)) in
    any_from_place p xs ∙ le-ltb (position_or_len p xs) (length xs) (omega arith)

-- nothing after the last
pub lacks_after : (p : ℕ → Bool) (xs : List ℕ) (k : ℕ) → IsLastByte p xs (Some k) → Lacks p (drop (k + 1) xs)
lacks_after p xs k h =
    lacks_from p (drop (k + 1) xs) (λ i lt. let inside = length-drop (k + 1) xs in ap p (get_or-drop (k + 1) xs i 0) ∙ false_from_ne_true (p (get_or xs (k + 1 + i) 0)) (h.0.after (k + 1 + i) (omega arith) (omega arith)))

pub line_byte_any : (xs : List ℕ) → list_any (is_byte3 9 10 13) xs ≡ list_any is_line_byte xs
line_byte_any [] = refl
line_byte_any (x ∷ xs) = ap (λ b. b || list_any (is_byte3 9 10 13) xs) (same (eqb x 9) (eqb x 10) (eqb x 13)) ∙ ap (λ b. is_line_byte x || b) (line_byte_any xs)
  where
    same : (a b c : Bool) → ((a || b) || c) ≡ (a || (b || c))
    same true b c = refl
    same false b c = refl
