use Rattle.std.proofs.Common.{◌≡◌, ◌++◌, map, take}
use Rattle.hash_prefixes.specs.declared.hashes.FullHash.{FullHash}
use Rattle.delta_server.proofs.finding.push_hashes.Given as goal

abbrev pub invariant-loop-hash : goal.invariant-loop-hash
invariant-loop-hash l = l.found.items ≡ l.initial.found.items ++ map (λ (hash : FullHash). hash.bytes) (take l.hash-index l.hashes)
