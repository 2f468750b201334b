use Rattle.std.proofs.Common.{◌≡◌, ◌++◌, map, take}
use Rattle.delta_server.specs.Finding.{match_of_hash}
use Rattle.delta_server.proofs.finding.push_matches.Given as goal

abbrev pub invariant-loop-bytes : goal.invariant-loop-bytes
invariant-loop-bytes l = l.matches ≡ l.initial.matches ++ map (match_of_hash l.name l.cache) (take l.bytes-index l.hashes)
