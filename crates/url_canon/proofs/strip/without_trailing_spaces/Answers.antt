use Rattle.std.proofs.Common.{arith, ◌∙◌}
use Rattle.std.proofs.lemmas.Bool.{eq-eqb}
use Rattle.url_canon.specs.Cleaning.{is_space}
use Rattle.url_canon.proofs.Trims.{trailing_more}
use Rattle.url_canon.proofs.strip.without_trailing_spaces.Goals as goal

pub loop-end-preserved : goal.loop-end-preserved
loop-end-preserved c =
    (omega arith, trailing_more is_space c.args.text.now c.loop-end.end c.loop-end-test.true c.loop-end.invariant.0 (eq-eqb _ 32 c.if-text-end-eq32.true) ∙ c.loop-end.invariant.1)
