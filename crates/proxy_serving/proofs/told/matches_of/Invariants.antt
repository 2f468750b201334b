use Rattle.std.proofs.Common.{◌≡◌, take}
use Rattle.std.specs.List.{flat_map}
use Rattle.proxy_serving.specs.Told.{matches_told}
use Rattle.proxy_serving.proofs.told.matches_of.Given as goal

abbrev pub invariant-loop-one : goal.invariant-loop-one
invariant-loop-one l = l.matches ≡ flat_map matches_told (take l.one-index l.urls)
