use Rattle.std.proofs.Common.{◌≡◌, ◌+◌, ◌-◌, ◌/◌, ◌^◌, get_or, drop, arith, ap, ◌∙◌}
use Rattle.std.proofs.lemmas.Nat.{shr_le}
use Rattle.rice_coding.specs.Codes.{coded_length, differences}
use Rattle.rice_coding.proofs.EncodeFacts.{coded_length-more, differences-drop, get_or-next}
use Rattle.rice_coding.proofs.parameter.choose.Goals as goal

pub loop-value-preserved : goal.loop-value-preserved
loop-value-preserved c =
    let i = c.loop-value.value-index in
    let value = get_or c.args.rest.now i 0 in
    let k = c.args.parameter in
    let step : coded_length k (differences c.loop-value.previous (drop i c.args.rest.now)) ≡ (value - c.loop-value.previous) / 2 ^ k + k + 1 + coded_length k (differences value (drop (i + 1) c.args.rest.now)) =
    ap (coded_length k) (differences-drop c.loop-value.previous i c.args.rest.now c.loop-value-test.true) ∙ coded_length-more k (value - c.loop-value.previous) (differences value (drop (i + 1) c.args.rest.now)) in (
      get_or-next c.args.first i c.args.rest.now,
      omega (arith, step, c.loop-value.invariant.1, c.from.ensures, c.from-in-loop-value.ensures),
      omega (arith, c.loop-value.invariant.2, c.from.ensures, c.from-in-loop-value.ensures, shr_le (value - c.loop-value.previous) k, c.type_inv.rest i, c.requires.parameter),
    )
