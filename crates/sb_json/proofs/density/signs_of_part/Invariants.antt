use Rattle.std.proofs.Common.{◌≡◌, ◌≤◌, length, take}
use Rattle.std.specs.List.{filter}
use Rattle.sb_json.specs.Density.{is_opening, is_value_sign}
use Rattle.sb_json.proofs.density.signs_of_part.Given as goal

abbrev pub invariant-loop-byte : goal.invariant-loop-byte
invariant-loop-byte l = record {
  openings : l.openings ≡ length (filter is_opening (take l.byte-index l.part));
  values : l.values ≡ length (filter is_value_sign (take l.byte-index l.part));
  few_openings : l.openings ≤ l.byte-index;
  few_values : l.values ≤ l.byte-index;
}
