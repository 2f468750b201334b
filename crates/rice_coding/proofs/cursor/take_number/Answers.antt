use Rattle.std.proofs.Common.{ℕ, ◌-◌, ◌≤◌, bit_and, length, arith, ap, sym, ◌∙◌}
use Rattle.std.proofs.lemmas.Nat.{one_shl, and_mask}
use Rattle.rice_coding.specs.Bits.{bits_from}
use Rattle.rice_coding.proofs.CodeFacts.{number_of_word, long_from_has}
use Rattle.rice_coding.proofs.cursor.take_number.Goals as goal

pub returns-clause-number : goal.returns-clause-number
returns-clause-number c =
    let bits = bits_from c.args.at.bytes.now c.args.at.offset in
    let word = c.window.result in
    let count = c.args.count in
    let long : count ≤ length bits = long_from_has c.has.result _ _ c.if-not-has.false c.has.ensures in
    ap (λ (n : ℕ). bit_and word (n - 1)) (one_shl count 64 (omega arith)) ∙ and_mask word count ∙ sym (number_of_word count bits word (λ i below. c.window.ensures i (omega arith)) long)
