use Rattle.std.proofs.Common.{arith}
use Rattle.sb_json.proofs.Densities.{few_signs}
use Rattle.sb_json.proofs.density.too_dense.Goals as goal

pub returns-then-signs-most_values : goal.returns-then-signs-most_values
returns-then-signs-most_values c =
    few_signs c.args.text.now
    (omega (arith, c.all_signs-signs.ensures.openings, c.most_openings.ensures, c.if-signs-most_openings.true))
    (omega (arith, c.all_signs-signs.ensures.values, c.most_values.ensures, c.if-signs-most_values.true))
