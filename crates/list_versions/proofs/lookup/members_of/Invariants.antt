use Rattle.std.proofs.Common.{◌≡◌, map, take}
use Rattle.hash_prefixes.specs.declared.hashes.FullHash.{FullHash}
use Rattle.list_versions.proofs.lookup.members_of.Given as goal

abbrev pub invariant-loop-i : goal.invariant-loop-i
invariant-loop-i l = map (λ (hash : FullHash). hash.bytes) l.row ≡ take l.i l.set
