use Rattle.std.proofs.Common.{◌≡◌, ◌-◌, ◌^◌, ap, ◌∙◌, arith}
use Rattle.std.specs.Prelude.{min}
use Rattle.std.specs.Str.Parse.{digits_value}
use Rattle.std.proofs.lemmas.List.{take_all}
use Rattle.sb_model.proofs.Numerals.{value_below}
use Rattle.sb_model.proofs.durations.value_of.Goals as goal

pub returns-clause-below : goal.returns-clause-below
returns-clause-below c =
    let is : c.loop-digit.number ≡ min (digits_value 10 c.args.digits.now) (2 ^ 64 - 1)
    = c.loop-digit.invariant ∙ ap (λ digits. min (digits_value 10 digits) (2 ^ 64 - 1)) (take_all c.loop-digit.digit-index c.args.digits.now c.loop-digit-test.false) in
    omega (arith, is, value_below c.args.digits.now c.requires)
