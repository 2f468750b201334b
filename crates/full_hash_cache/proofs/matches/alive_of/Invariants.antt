use Rattle.std.proofs.Common.{◌≡◌}
use Rattle.std.specs.List.{fold}
use Rattle.full_hash_cache.specs.Cache.{with_match, latest, alive}
use Rattle.full_hash_cache.proofs.matches.alive_of.Given as goal

abbrev pub invariant-loop-hash : goal.invariant-loop-hash
invariant-loop-hash l = fold with_match l.matches.entries (alive l.at l.hash-iterator) ≡ latest (alive l.at l.kept.entries)
