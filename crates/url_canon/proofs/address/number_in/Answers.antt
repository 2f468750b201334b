use Rattle.std.proofs.Common.{◌≡◌, ℕ, ◌≤◌, ◌<◌, List, Some, None, length, get_or, sym, ap, ◌∙◌, arith}
use Rattle.std.specs.Char.{digit_value}
use Rattle.std.proofs.lemmas.Bool.{eqb-true, eqb-false, ltb-false, le-ltb}
use Rattle.url_canon.proofs.Numbers.{stopped, number_in-empty, number_in-other, number_in-digits}
use Rattle.url_canon.specs.Address.{number_in_base}
use Rattle.url_canon.proofs.address.number_in.Goals as goal

nothing : (base : ℕ) (digits : List ℕ) → number_in_base base digits ≡ None → None ≡ stopped (number_in_base base digits)
nothing base digits e = sym (ap stopped e)

too_great : (base : ℕ) (digits : List ℕ) (i : ℕ) → i < length digits → base ≤ digit_value (get_or digits i 0) → None ≡ stopped (number_in_base base digits)
too_great base digits i inside h =
    nothing base digits (number_in-other base digits i inside (le-ltb (digit_value (get_or digits i 0)) base h))

pub returns-then-is_empty : goal.returns-then-is_empty
returns-then-is_empty c =
    nothing c.args.base c.args.digits.now (number_in-empty c.args.base c.args.digits.now (eqb-true _ 0 (sym c.if-is_empty.ensures)))

pub returns-in_err-hex_value : goal.returns-in_err-hex_value
returns-in_err-hex_value c =
    let digit = get_or c.args.digits.now c.loop-byte.byte-index 0 in
    let high = ltb-false (digit_value digit) 16 c.in_err-hex_value.ensures in
    c.from_residual.ensures ∙ too_great c.args.base c.args.digits.now c.loop-byte.byte-index (omega arith) (omega arith)

pub returns-then-digit-base : goal.returns-then-digit-base
returns-then-digit-base c =
    let is_value = c.in_ok-hex_value.ensures in
    too_great c.args.base c.args.digits.now c.loop-byte.byte-index (omega arith) (omega arith)

pub returns : goal.returns
returns c =
    let some = eqb-false (length c.args.digits.now) 0 (sym c.if-is_empty.ensures) in
    let full = number_in-digits c.args.base c.args.digits.now c.loop-byte.byte-index (omega arith) c.loop-byte-test.false c.loop-byte.invariant.0 in
    ap Some c.loop-byte.invariant.1 ∙ sym (ap stopped full)
