use Rattle.std.proofs.Common.{◌≡◌, map, take}
use Rattle.hash_prefixes.specs.declared.hashes.FullHash.{FullHash}
use Rattle.list_versions.proofs.listing.row_of.Given as goal

abbrev pub invariant-loop-hash : goal.invariant-loop-hash
invariant-loop-hash l = map (λ (hash : FullHash). hash.bytes) l.row ≡ take l.hash-index l.hashes
