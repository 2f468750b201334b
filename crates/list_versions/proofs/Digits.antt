-- Texts of digits.
use Rattle.std.proofs.Common.{◌≡◌, ℕ, ◌-◌, ◌^◌, ◌<◌, ◌≤◌, List, [], ◌∷◌, Bool, true, false, ◌&&◌, length, take, get_or, refl, arith}
use Rattle.std.specs.Char.{is_ascii_digit, digit_value}
use Rattle.std.specs.List.{list_all}
use Rattle.std.specs.Str.Parse.{digits_value, AllDigits}
use Rattle.std.proofs.lemmas.Grind.{common_steps}
use Rattle.std.proofs.lemmas.Bool.Decides.{nat_tests}
use Rattle.std.proofs.lemmas.Int.Digits.{digits_value-lt}
use Rattle.std.proofs.lemmas.Str.Parse.{digits_value-take-le}
use Rattle.std.proofs.Math.Nat.{pow-le-pow_right}

pub digit_is : (c : ℕ) → is_ascii_digit c ≡ true → (48 ≤ c) × (c ≤ 57) × (digit_value c ≡ c - 48)
digit_is c h =
    let low : 48 ≤ c = grind (arith, nat_tests) in
    let high : c ≤ 57 = grind (arith, nat_tests) in
    (low, high, grind (arith, nat_tests))

head_true : (a b : Bool) → (a && b) ≡ true → a ≡ true
head_true true b h = refl
head_true false b h = h

tail_true : (a b : Bool) → (a && b) ≡ true → b ≡ true
tail_true true b h = h
tail_true false b h = absurd (cc)

pub all_digits : (text : List ℕ) → list_all is_ascii_digit text ≡ true → AllDigits 10 text
all_digits [] h = tt
all_digits (c ∷ cs) h =
    let digit = digit_is c (head_true _ (list_all is_ascii_digit cs) h) in
    (omega arith, all_digits cs (tail_true (is_ascii_digit c) _ h))

pub digit_at : (text : List ℕ) (i : ℕ) → list_all is_ascii_digit text ≡ true → i < length text → is_ascii_digit (get_or text i 0) ≡ true
digit_at text i h l = grind (arith, common_steps)

-- four digits write no more than 9999
pub four_digits : (text : List ℕ) (i : ℕ) → list_all is_ascii_digit text ≡ true → length text ≤ 4 → digits_value 10 (take i text) ≤ 9999
four_digits text i h short =
    let front = digits_value-take-le 10 text i (omega arith) in
    let whole = digits_value-lt 10 text (all_digits text h) in
    let room : 10 ^ length text ≤ 10 ^ 4 = pow-le-pow_right (omega arith) short in
    omega arith
