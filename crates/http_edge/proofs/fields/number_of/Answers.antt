use Rattle.std.proofs.Common.{◌∙◌, ap, ℕ, ◌+◌, ◌*◌, min}
use Rattle.http_edge.proofs.FieldValues.{number_more}
use Rattle.http_edge.proofs.fields.number_of.Goals as goal

pub loop-digit-preserved : goal.loop-digit-preserved
loop-digit-preserved c =
    let more = number_more c.args.digits.now c.loop-digit.digit-index c.loop-digit.number c.loop-digit-test.true c.requires c.loop-digit.invariant in
    c.saturating_add-number.ensures
    ∙ ap (λ (n : ℕ). min (n + c.from.result) 18446744073709551615) c.saturating_mul.ensures
    ∙ ap (λ (d : ℕ). min (min (c.loop-digit.number * 10) 18446744073709551615 + d) 18446744073709551615) c.from.ensures
    ∙ more
