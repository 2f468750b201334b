use Rattle.std.proofs.Common.{arith}
use Rattle.sb_json.specs.Density.{is_opening, is_value_sign}
use Rattle.sb_json.proofs.Densities.{part_within}
use Rattle.sb_json.proofs.density.all_signs.Goals as goal

pub overflow_add-openings : goal.overflow_add-openings
overflow_add-openings c =
    let within = part_within is_opening c.args.text.now c.parts.rest.now _ _ c.parts.openings c.signs_of_part-signs.result.openings c.split_at.ensures.front c.parts.invariant.openings c.signs_of_part-signs.ensures.openings in
    omega (arith, within)

pub overflow_add-values : goal.overflow_add-values
overflow_add-values c =
    let within = part_within is_value_sign c.args.text.now c.parts.rest.now _ _ c.parts.values c.signs_of_part-signs.result.values c.split_at.ensures.front c.parts.invariant.values c.signs_of_part-signs.ensures.values in
    omega (arith, within)
