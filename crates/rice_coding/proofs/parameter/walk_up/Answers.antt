use Rattle.std.proofs.Common.{arith}
use Rattle.rice_coding.specs.Codes.{differences}
use Rattle.rice_coding.proofs.EncodeFacts.{fewest_here}
use Rattle.rice_coding.proofs.parameter.walk_up.Goals as goal

pub returns-then-higher-best-clause-best : goal.returns-then-higher-best-clause-best
returns-then-higher-best-clause-best c =
    let deltas = differences c.args.first c.args.rest.now in
    let known = c.loop-best.invariant in
    fewest_here c.loop-best.best.parameter deltas known.0 known.1
    (λ some. omega (arith, known.2, known.3 some))
    (λ some. omega (arith, known.2, c.choose-higher.ensures.bits, c.if-higher-best.true))

pub returns-clause-best : goal.returns-clause-best
returns-clause-best c =
    let deltas = differences c.args.first c.args.rest.now in
    let known = c.loop-best.invariant in
    fewest_here c.loop-best.best.parameter deltas known.0 known.1
    (λ some. omega (arith, known.2, known.3 some))
    (λ some. absurd (omega (arith, some, c.loop-best-test.false)))
