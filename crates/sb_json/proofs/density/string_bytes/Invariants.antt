use Rattle.std.proofs.Common.{◌≡◌, ◌+◌, ◌-◌, ◌<◌, ◌≤◌, [], length, take}
use Rattle.sb_json.specs.Density.{Inside, outside_from, place_behind}
use Rattle.sb_json.proofs.density.string_bytes.Given as goal

abbrev pub invariant-signs : goal.invariant-signs
invariant-signs l = record {
  within : l.at ≤ length l.text + 1;
  inside : outside_from Inside (take l.at l.text) ≡ [];
  stays : l.at < length l.text → place_behind Inside (take l.at l.text) ≡ Inside;
}

abbrev pub decreases-signs : goal.decreases-signs
decreases-signs l = length l.text + 1 - l.at
