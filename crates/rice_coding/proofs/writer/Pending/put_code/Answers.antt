use Rattle.std.proofs.Common.{◌≡◌, ℕ, ◌+◌, ◌-◌, ◌*◌, ◌%◌, ◌^◌, ◌<◌, ◌≤◌, Bool, true, false, List, ◌∷◌, ◌++◌, replicate, bit_and, arith, ap, ◌∙◌}
use Rattle.std.proofs.lemmas.Nat.{mod_below, pow_pos}
use Rattle.rice_coding.specs.Bits.{low_bits}
use Rattle.rice_coding.proofs.BitFacts.{ones_more, low_part, code_some, code_fits, low_bits_code, put_code_is, if_ok_then}
use Rattle.rice_coding.proofs.writer.Pending.put_code.Goals as goal

pub loop-ones-preserved : goal.loop-ones-preserved
loop-ones-preserved c = ones_more (c.loop-ones.writer ++ c.loop-ones.pending) (c.put.new.writer ++ c.in_ok-pending.pending) _ c.loop-ones.ones c.loop-ones-test.true c.in_ok-pending.ensures c.loop-ones.invariant

low_is : (result parameter delta : ℕ) → parameter ≤ 28 → result ≡ bit_and delta (1 * 2 ^ parameter % 2 ^ 32 - 1) → (result ≡ delta % 2 ^ parameter) × (result < 2 ^ parameter)
low_is result parameter delta few is =
    let low : result ≡ delta % 2 ^ parameter = is ∙ low_part parameter delta few in
    (low, omega (arith, low, mod_below delta (2 ^ parameter) (pow_pos parameter)))

pub overflow_sub-number : goal.overflow_sub-number
overflow_sub-number c =
    let low = low_is c.from-low.result c.args.parameter c.args.delta c.requires c.from-low.ensures in
    code_some c.args.parameter c.from-low.result c.loop-ones.ones low.1 c.requires c.loop-ones-test.false

pub put-requires-2-clause-fits : goal.put-requires-2-clause-fits
put-requires-2-clause-fits c =
    let low = low_is c.from-low.result c.args.parameter c.args.delta c.requires c.from-low.ensures in
    code_fits c.args.parameter c.from-low.result c.loop-ones.ones low.1 c.requires c.loop-ones-test.false

pub returns : goal.returns
returns c =
    let k = c.args.parameter in
    let ones = c.loop-ones.ones in
    let low = low_is c.from-low.result k c.args.delta c.requires c.from-low.ensures in
    let bits : low_bits (ones + k + 1) ((2 * c.from-low.result + 1) * 2 ^ ones % 2 ^ 64 - 1) ≡ replicate ones true ++ false ∷ low_bits k c.args.delta =
    ap (λ (n : ℕ). low_bits (ones + k + 1) ((2 * n + 1) * 2 ^ ones % 2 ^ 64 - 1)) low.0 ∙ low_bits_code k c.args.delta ones c.requires c.loop-ones-test.false in
    if_ok_then c.put-2.result c.put-2.ensures (λ pending is.
    put_code_is (c.args.writer.now ++ c.args.self) (c.loop-ones.writer ++ c.loop-ones.pending) (c.put-2.new.writer ++ pending) k c.args.delta ones c.loop-ones.invariant (is ∙ ap (λ (bits : List Bool). (c.loop-ones.writer ++ c.loop-ones.pending) ++ bits) bits))
