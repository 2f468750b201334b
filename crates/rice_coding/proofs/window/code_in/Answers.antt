use Rattle.std.proofs.Common.{◌≡◌, ℕ, ◌+◌, ◌-◌, ◌*◌, ◌/◌, ◌%◌, ◌^◌, ◌≤◌, Some, drop, bit_and, arith, ap, sym, ◌∙◌}
use Rattle.std.proofs.lemmas.Nat.{one_shl, and_mask}
use Rattle.rice_coding.proofs.CodeFacts.{word_code, word_delta, shifted_whole}
use Rattle.rice_coding.proofs.window.code_in.Goals as goal

delta_is : (from ones k rest : ℕ) → from ≡ ones → k ≤ 28 → ones ≤ 56 → from * 2 ^ k % 2 ^ 64 + bit_and rest (1 * 2 ^ k % 2 ^ 64 - 1) ≡ ones * 2 ^ k + rest % 2 ^ k
delta_is from ones k rest same few many =
    let low : bit_and rest (1 * 2 ^ k % 2 ^ 64 - 1) ≡ rest % 2 ^ k = ap (λ (n : ℕ). bit_and rest (n - 1)) (one_shl k 64 (omega arith)) ∙ and_mask rest k in
    let high : from * 2 ^ k % 2 ^ 64 ≡ ones * 2 ^ k = ap (λ (n : ℕ). n * 2 ^ k % 2 ^ 64) same ∙ shifted_whole ones k (omega arith) few in
    omega (arith, low, high)

pub returns-clause-small : goal.returns-clause-small
returns-clause-small c =
    let k = c.args.parameter in
    let ones = c.trailing_ones-ones.result in
    let rest = c.args.word / 2 ^ (ones + 1) in
    let many : ones ≤ 56 = omega (arith, c.if-length-valid.false, c.requires.word) in
    omega (arith, delta_is c.from.result ones k rest c.from.ensures c.requires.few many, word_delta k ones rest c.requires.few many)

pub returns-clause-first : goal.returns-clause-first
returns-clause-first c = λ bits long same.
    let k = c.args.parameter in
    let ones = c.trailing_ones-ones.result in
    let rest = c.args.word / 2 ^ (ones + 1) in
    let many : ones ≤ 56 = omega (arith, c.if-length-valid.false, c.requires.word) in
    word_code bits c.args.word c.args.valid k ones c.ranges.word.fits (omega (arith, c.requires.word)) same c.trailing_ones-ones.ensures long c.if-length-valid.false
    ∙ ap (λ (n : ℕ). Some (n, drop (ones + k + 1) bits)) (sym (delta_is c.from.result ones k rest c.from.ensures c.requires.few many))
