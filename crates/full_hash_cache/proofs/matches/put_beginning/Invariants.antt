use Rattle.std.proofs.Common.{◌≡◌}
use Rattle.std.specs.List.{fold}
use Rattle.full_hash_cache.specs.Cache.{with_match, beginning_with}
use Rattle.full_hash_cache.proofs.matches.put_beginning.Given as goal

abbrev pub invariant-loop-hash : goal.invariant-loop-hash
invariant-loop-hash l = fold with_match l.matches.entries l.hash-iterator ≡ fold with_match l.fn.matches.entries (beginning_with l.prefix l.found.entries)
