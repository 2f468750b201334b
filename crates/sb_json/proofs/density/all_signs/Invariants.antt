use Rattle.std.proofs.Common.{◌≡◌, ◌+◌, length}
use Rattle.std.specs.List.{filter}
use Rattle.sb_json.specs.Density.{is_opening, is_value_sign}
use Rattle.sb_json.proofs.density.all_signs.Given as goal

abbrev pub invariant-parts : goal.invariant-parts
invariant-parts l = record {
  openings : l.openings + length (filter is_opening l.rest) ≡ length (filter is_opening l.text);
  values : l.values + length (filter is_value_sign l.rest) ≡ length (filter is_value_sign l.text);
}

abbrev pub decreases-parts : goal.decreases-parts
decreases-parts l = length l.rest
