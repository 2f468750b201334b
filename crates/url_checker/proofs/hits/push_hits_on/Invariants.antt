use Rattle.std.proofs.Common.{◌≡◌, ◌++◌, take}
use Rattle.std.specs.List.{flat_map}
use Rattle.url_checker.specs.Hits.{hits_with}
use Rattle.url_checker.proofs.hits.push_hits_on.Given as goal

abbrev pub invariant-loop-hash : goal.invariant-loop-hash
invariant-loop-hash l = l.hits ≡ l.fn.hits ++ flat_map (hits_with l.held) (take l.hash-index l.hashes)
