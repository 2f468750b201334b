use Rattle.std.proofs.Common.{◌≡◌, ◌++◌, drop, map}
use Rattle.hash_prefixes.specs.declared.hashes.FullHash.{FullHash}
use Rattle.journal_run.proofs.synced.bytes_of.Given as goal

-- the bytes so far, and those of the hashes that are left, are all bytes
abbrev pub invariant-loop-hash : goal.invariant-loop-hash
invariant-loop-hash l = l.all.items ++ map (λ (hash : FullHash). hash.bytes) (drop l.hash-index l.hashes) ≡ map (λ (hash : FullHash). hash.bytes) l.hashes
