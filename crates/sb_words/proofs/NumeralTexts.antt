-- A numeral that no u64 holds is above every limit.
use Rattle.std.proofs.Common.{◌≡◌, ℕ, ◌<◌, ◌^◌, List, length, true, arith, rules, None, Err}
use Rattle.std.specs.Prelude.{Result}
use Rattle.std.specs.Char.{is_ascii_digit}
use Rattle.std.specs.List.{list_all}
use Rattle.std.specs.Str.Parse.{digits_value, ParsesUnsigned}
use Rattle.std.proofs.lemmas.Grind.{common_steps}
use Rattle.std.proofs.lemmas.Str.Parse.{IsNumeralModel, numerals_by_value, parse_digits}
use Rattle.sb_words.specs.Values.{is_numeral, number_of}

digits_model : IsNumeralModel (λ ds. list_all is_ascii_digit ds ≡ true) (digits_value 10)
digits_model = numerals_by_value _ (search rules)

numeral_digits : (text : List ℕ) → is_numeral text ≡ true → list_all is_ascii_digit text ≡ true
numeral_digits text h = grind (arith, common_steps, h)

numeral_some : (text : List ℕ) → is_numeral text ≡ true → 0 < length text
numeral_some text h = grind (arith, common_steps, h)

pub too_large : {E : Type 0} (text : List ℕ) (r : Result ℕ E) (e : E) (low most : ℕ) → most < 2 ^ 64 → ParsesUnsigned 64 10 text r → r ≡ Err e → is_numeral text ≡ true
    → None ≡ number_of low most text
too_large text r e low most fits parses err h =
    let no : ¬ ((0 < length text) × (digits_value 10 text < 2 ^ 64)) = rw err at (parse_digits digits_model 64 text r parses (numeral_digits text h)) in
    let below : ¬ (digits_value 10 text < 2 ^ 64) = λ (lt : digits_value 10 text < 2 ^ 64). no (numeral_some text h, lt) in
    let above : most < digits_value 10 text = omega (arith, below) in
    rw h (grind (arith, common_steps, above))
