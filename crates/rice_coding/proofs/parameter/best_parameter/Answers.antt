use Rattle.std.proofs.Common.{arith}
use Rattle.rice_coding.specs.Codes.{differences}
use Rattle.rice_coding.proofs.EncodeFacts.{fewest_here}
use Rattle.rice_coding.proofs.parameter.best_parameter.Goals as goal

pub returns-then-lower-likely-clause-best : goal.returns-then-lower-likely-clause-best
returns-then-lower-likely-clause-best c =
    let deltas = differences c.args.first c.args.rest.now in
    let lower = c.walk_down-lower.ensures in
    let near = c.likely_parameter.ensures in
    let same = c.choose-likely.ensures.parameter in
    fewest_here c.walk_down-lower.result.parameter deltas lower.low (omega (arith, lower.high, near.high, same))
    (λ some. omega (arith, lower.bits, lower.below some))
    (λ some. omega (arith, lower.bits, lower.above c.if-lower-likely.true))
