-- Numbers of durations, digit by digit.
use Rattle.std.proofs.Common.{◌≡◌, ℕ, suc, ◌+◌, ◌-◌, ◌*◌, ◌^◌, ◌<◌, ◌≤◌, List, [], ◌∷◌, Bool, true, false, length, take, get_or, refl, sym, ap, ◌∙◌, arith, mul_assoc}
use Rattle.std.specs.Prelude.{min}
use Rattle.std.specs.Char.{is_ascii_digit, digit_value}
use Rattle.std.specs.List.{list_all}
use Rattle.std.specs.Str.Parse.{AllDigits, digits_value}
use Rattle.std.proofs.Math.Nat.{pow-suc}
use Rattle.std.proofs.Math.Numerals.{add-one}
use Rattle.std.proofs.lemmas.Bool.{false≢true, and_parts}
use Rattle.std.proofs.lemmas.Bool.Decides.{nat_tests}
use Rattle.std.proofs.lemmas.Int.Digits.{digits_value-lt, digits_value_push}
use Rattle.std.proofs.lemmas.List.{take_more}
use Rattle.std.proofs.lemmas.List.Folds.{list_all_at}

digit_of : (c : ℕ) → is_ascii_digit c ≡ true → digit_value c ≡ c - 48
digit_of c h = grind (arith, nat_tests)

digit_below : (c : ℕ) → is_ascii_digit c ≡ true → digit_value c < 10
digit_below c h = grind (arith, nat_tests)

-- where all bytes pass, the one at a place does
passes_at : (ds : List ℕ) (i : ℕ) → list_all is_ascii_digit ds ≡ true → i < length ds → is_ascii_digit (get_or ds i 0) ≡ true
passes_at ds i h l = go (is_ascii_digit (get_or ds i 0)) refl
  where
    go : (b : Bool) → is_ascii_digit (get_or ds i 0) ≡ b → is_ascii_digit (get_or ds i 0) ≡ true
    go true e = e
    go false e = absurd (false≢true (sym (list_all_at is_ascii_digit ds i 0 l e) ∙ h))

pub all_digits : (ds : List ℕ) → list_all is_ascii_digit ds ≡ true → AllDigits 10 ds
all_digits [] h = tt
all_digits (d ∷ ds) h = let both = and_parts _ _ h in (digit_below d both.0, all_digits ds both.1)

-- the number of one digit more
pub value_more : (ds : List ℕ) (i n : ℕ) → list_all is_ascii_digit ds ≡ true → i < length ds → n ≡ min (digits_value 10 (take i ds)) (2 ^ 64 - 1)
    → min (min (n * 10) (2 ^ 64 - 1) + (get_or ds i 0 - 48)) (2 ^ 64 - 1) ≡ min (digits_value 10 (take (i + 1) ds)) (2 ^ 64 - 1)
value_more ds i n h l is =
    let more = ap (digits_value 10) (take_more ds i 0 l) ∙ digits_value_push 10 (take i ds) (get_or ds i 0) in
    let digit = digit_of (get_or ds i 0) (passes_at ds i h l) in
    omega (arith, more, digit, is)

-- so many digits write a number below the power of ten
pub value_below : (ds : List ℕ) → list_all is_ascii_digit ds ≡ true → digits_value 10 ds < 10 ^ length ds
value_below ds h = digits_value-lt 10 ds (all_digits ds h)

-- a zero more
pub scaled_more : (n number d p : ℕ) → d ≤ p → n ≡ number * 10 ^ (p - d) → n * 10 ≡ number * 10 ^ (p + 1 - d)
scaled_more n number d p h is =
    let up : p + 1 - d ≡ suc (p - d) = omega (arith, h) in
    let power : 10 ^ (p + 1 - d) ≡ 10 ^ (p - d) * 10 = ap (λ k. 10 ^ k) up ∙ pow-suc 10 (p - d) in
    ap (λ m. m * 10) is ∙ omega (arith, mul_assoc number (10 ^ (p - d)) 10) ∙ ap (λ m. number * m) (sym power)

pub below_more : (n p : ℕ) → n < 10 ^ p → n * 10 < 10 ^ (p + 1)
below_more n p h = let power : 10 ^ (p + 1) ≡ 10 ^ p * 10 = ap (λ k. 10 ^ k) (add-one p) ∙ pow-suc 10 p in omega (arith, power, h)
