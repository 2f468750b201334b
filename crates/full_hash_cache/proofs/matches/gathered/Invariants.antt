use Rattle.std.proofs.Common.{◌≡◌, drop, map, filter}
use Rattle.std.specs.List.{fold}
use Rattle.sb_model.specs.Names.{same_name}
use Rattle.full_hash_cache.specs.Cache.{with_match, ending, matches_for}
use Rattle.full_hash_cache.specs.Keys.{HasFullHashes}
use Rattle.full_hash_cache.proofs.matches.gathered.Given as goal

abbrev pub invariant-loop-one : goal.invariant-loop-one
invariant-loop-one l = record {
  rest : fold with_match l.matches.entries (map (ending l.at) (filter (λ m. same_name m.name l.list) (drop l.one-index l.found))) ≡ matches_for l.at l.list l.found;
  full : HasFullHashes l.matches.entries;
}
