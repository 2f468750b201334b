use Rattle.std.proofs.Common.{◌≡◌, ℕ, ◌-◌, ◌*◌, ◌<◌, ◌≤◌, Bool, false, List, Some, length, get_or, drop, eqb, arith, ap, sym, ◌∙◌}
use Rattle.std.specs.Int.{bit_at}
use Rattle.rice_coding.specs.Bits.{bits_from}
use Rattle.rice_coding.proofs.BitFacts.{length-bits_from, drop-bits_from}
use Rattle.rice_coding.proofs.place.take_short_code.Goals as goal

pub invariant_of-result : goal.invariant_of-result
invariant_of-result c =
    let at = c.args.at in
    let near = c.cursor_at-near.result in
    let long : 57 ≤ 8 * length at.bytes.now - at.bit =
    omega (arith, length-bits_from near.bytes.now near.offset, length-bits_from at.bytes.now at.bit, ap length c.cursor_at-near.ensures, near.in_byte, c.if-near-lt8.false) in
    record { within = omega (arith, long, c.in_ok-bit.ensures.1, c.in_ok-code.ensures.short) }

pub returns-clause-read : goal.returns-clause-read
returns-clause-read c =
    let at = c.args.at in
    let near = c.cursor_at-near.result in
    let bits = bits_from at.bytes.now at.bit in
    let code = c.in_ok-code.code in
    let long : 57 ≤ length bits = omega (arith, length-bits_from near.bytes.now near.offset, ap length c.cursor_at-near.ensures, near.in_byte, c.if-near-lt8.false) in
    let same : (i : ℕ) → i < 57 → get_or bits i false ≡ eqb (bit_at c.window.result i) 1 =
    λ i below. ap (λ (bits : List Bool). get_or bits i false) (sym c.cursor_at-near.ensures) ∙ c.window.ensures i below in
    let after : drop code.length bits ≡ bits_from at.bytes.now c.in_ok-bit.bit =
    drop-bits_from at.bytes.now at.bit code.length ∙ ap (bits_from at.bytes.now) (sym c.in_ok-bit.ensures.1) in
    c.in_ok-code.ensures.first bits long same ∙ ap (λ (left : List Bool). Some (code.delta, left)) after
