use Rattle.std.proofs.Common.{◌≡◌, ℕ, ◌+◌, ◌-◌, ◌^◌, ◌<◌, [], ◌∷◌, length, ap, refl, arith}
use Rattle.std.proofs.lemmas.List.{length-append}
use Rattle.rice_coding.specs.Bits.{bits_from}
use Rattle.rice_coding.specs.Reading.{reading}
use Rattle.rice_coding.proofs.NextFacts.{read_on}
use Rattle.rice_coding.proofs.run.read_run.Goals as goal

pub loop-left-preserved : goal.loop-left-preserved
loop-left-preserved c =
    let loop = c.loop-left in
    let code = c.in-Some.ensures.read in
    let k = c.args.parameter in
    let next = c.from.result + c.in-Some.pair.first in
    let last = next + c.in-Some.pair.second in
    let bits = bits_from loop.at.bytes.now loop.at.bit in
    let rest = bits_from c.in-Some.pair.after.bytes.now c.in-Some.pair.after.bit in
    let below : last < 2 ^ 32 = omega (arith, c.if-last-from.false, c.from-in-loop-left.ensures) in
    let sum : next ≡ loop.value + c.in-Some.pair.first = omega (arith, c.from.ensures) in
    let fewer : loop.left - 2 + 1 ≡ loop.left - 1 = omega (arith, c.loop-left-test.true) in
    let less : loop.left - 1 + 1 ≡ loop.left = omega (arith, c.loop-left-test.true) in
    let middle = c.push.new.self in
    let push = c.in_ok-push.ensures.ok in
    let again = c.in_ok-push-2.ensures.ok in
    let on = λ (entry : ℕ).
    let whole = reading k c.args.count entry c.args.first (bits_from c.args.start.bytes.now c.args.start.bit) in
    let e = entry + (c.args.count - loop.left) in
    let later : entry + (c.args.count - (loop.left - 1)) ≡ e + 1 = omega (arith, c.loop-left-test.true, loop.invariant.0) in
    let after : entry + (c.args.count - (loop.left - 2)) ≡ entry + (c.args.count - (loop.left - 1)) + 1 = omega (arith, c.loop-left-test.true, loop.invariant.0) in
    let one = read_on k loop.left (loop.left - 1) e (entry + (c.args.count - (loop.left - 1))) loop.value c.in-Some.pair.first next bits code.0 c.args.values.now loop.values middle whole
    (omega (arith, c.loop-left-test.true)) less later code.1 sum (omega (arith, below)) push (loop.invariant.3 entry) (loop.invariant.4 entry) in
    read_on k (loop.left - 1) (loop.left - 2) (entry + (c.args.count - (loop.left - 1))) (entry + (c.args.count - (loop.left - 2))) next c.in-Some.pair.second last code.0 rest
    c.args.values.now middle c.push-in-loop-left.new.self whole (omega (arith, c.loop-left-test.true)) fewer after code.2 refl below again one.0 one.1 in
    (omega (arith, loop.invariant.0), below, omega (arith, loop.invariant.2, ap length push, ap length again, length-append middle (last ∷ []), length-append loop.values (next ∷ [])), λ entry. (on entry).0, λ entry. (on entry).1)
