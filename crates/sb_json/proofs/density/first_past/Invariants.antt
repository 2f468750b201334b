use Rattle.std.proofs.Common.{◌-◌, length}
use Rattle.sb_json.proofs.Densities.{IsRead}
use Rattle.sb_json.proofs.density.first_past.Given as goal

abbrev pub invariant-bytes : goal.invariant-bytes
invariant-bytes l = IsRead l.text l.at l.openings l.values

abbrev pub decreases-bytes : goal.decreases-bytes
decreases-bytes l = length l.text - l.at
