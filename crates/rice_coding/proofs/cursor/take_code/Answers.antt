use Rattle.std.proofs.Common.{◌≡◌, ℕ, ◌+◌, ◌*◌, ◌^◌, ◌%◌, ◌<◌, ◌≤◌, Bool, List, Some, take, arith, ap, sym, ◌∙◌, rules}
use Rattle.rice_coding.specs.Bits.{bits_from, number_of_bits}
use Rattle.rice_coding.proofs.CodeFacts.{delta_at-no_zero, delta_at-short, delta_at-some, delta_high, shifted_whole, delta_fits, low_lt}
use Rattle.rice_coding.proofs.cursor.take_code.Goals as goal

pub returns-in_err-quotient-clause-none : goal.returns-in_err-quotient-clause-none
returns-in_err-quotient-clause-none c =
    rw c.from_residual.ensures (delta_at-no_zero c.args.parameter (bits_from c.args.at.bytes.now c.args.at.offset) c.in_err-quotient.ensures.none)

pub returns-in_err-low-clause-none : goal.returns-in_err-low-clause-none
returns-in_err-low-clause-none c =
    let ones = c.in_ok-quotient.ensures.some in
    rw c.from_residual-in_err-low.ensures (delta_at-short c.args.parameter ones.0 (bits_from c.args.at.bytes.now c.args.at.offset) _ ones.1 c.in_err-low.ensures.none)

pub returns-then-quotient-ne0-clause-some : goal.returns-then-quotient-ne0-clause-some
returns-then-quotient-ne0-clause-some c =
    let ones = c.in_ok-quotient.ensures.some in
    let rest = bits_from c.in_ok-quotient.at.bytes.now c.in_ok-quotient.at.offset in
    let low = number_of_bits (take c.args.parameter rest) in
    let many : 2 ^ 34 ≤ ones.0 = omega (arith, ones.2) in (
      ones.0 * 2 ^ c.args.parameter + low,
      delta_at-some c.args.parameter ones.0 (bits_from c.args.at.bytes.now c.args.at.offset) rest ones.1 c.in_ok-low.ensures.long
          ∙ ap (λ (left : List Bool). Some (ones.0 * 2 ^ c.args.parameter + low, left)) (sym c.in_ok-low.ensures.after),
      omega (arith, delta_high ones.0 c.args.parameter low many),
    )

-- the shifted quotient stands whole in the word, and leaves room for the low bits
pub overflow_add-quotient : goal.overflow_add-quotient
overflow_add-quotient c =
    let rest = bits_from c.in_ok-quotient.at.bytes.now c.in_ok-quotient.at.offset in
    let low : c.in_ok-low.low < 2 ^ c.args.parameter = omega (arith, c.in_ok-low.ensures.number, low_lt c.args.parameter rest c.in_ok-low.ensures.long) in
    let few : c.in_ok-quotient.quotient < 2 ^ 34 = omega arith in
    let fits : c.in_ok-quotient.quotient * 2 ^ c.args.parameter % 2 ^ 64 + c.in_ok-low.low < 2 ^ 64 = delta_fits c.in_ok-quotient.quotient c.args.parameter c.in_ok-low.low few c.requires.few low in
    search rules

pub returns-clause-some : goal.returns-clause-some
returns-clause-some c =
    let ones = c.in_ok-quotient.ensures.some in
    let rest = bits_from c.in_ok-quotient.at.bytes.now c.in_ok-quotient.at.offset in
    let low = number_of_bits (take c.args.parameter rest) in
    let few : ones.0 ≡ c.in_ok-quotient.quotient = omega (arith, ones.2) in
    let whole : c.in_ok-quotient.quotient * 2 ^ c.args.parameter % 2 ^ 64 ≡ c.in_ok-quotient.quotient * 2 ^ c.args.parameter =
    shifted_whole c.in_ok-quotient.quotient c.args.parameter (omega arith) c.requires.few in
    let whole_ones : c.in_ok-quotient.quotient * 2 ^ c.args.parameter ≡ ones.0 * 2 ^ c.args.parameter = ap (λ (n : ℕ). n * 2 ^ c.args.parameter) (sym few) in
    let number : c.in_ok-low.low ≡ low = c.in_ok-low.ensures.number in (
      ones.0 * 2 ^ c.args.parameter + low,
      delta_at-some c.args.parameter ones.0 (bits_from c.args.at.bytes.now c.args.at.offset) rest ones.1 c.in_ok-low.ensures.long
          ∙ ap (λ (left : List Bool). Some (ones.0 * 2 ^ c.args.parameter + low, left)) (sym c.in_ok-low.ensures.after),
      omega (arith, c.min.ensures),
    )
