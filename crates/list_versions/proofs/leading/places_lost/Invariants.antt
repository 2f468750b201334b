use Rattle.std.proofs.Common.{◌≡◌, map, take}
use Rattle.list_versions.specs.Leading.{older_place}
use Rattle.list_versions.proofs.leading.places_lost.Given as goal

abbrev pub invariant-loop-i : goal.invariant-loop-i
invariant-loop-i l = l.places ≡ map (older_place l.newest l.lost l.gained) (take l.i l.lost)
