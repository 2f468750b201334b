use Rattle.std.proofs.Common.{◌≡◌, take}
use Rattle.std.specs.List.{flat_map}
use Rattle.url_checker.specs.Hits.{hits_on}
use Rattle.url_checker.proofs.hits.hits_on_lists.Given as goal

abbrev pub invariant-loop-held : goal.invariant-loop-held
invariant-loop-held l = l.hits ≡ flat_map (hits_on l.hashes) (take l.held-index l.lists)
