use Rattle.std.proofs.Common.{◌≡◌, take}
use Rattle.full_hash_cache.specs.Cache.{put_pairs, pairs_of}
use Rattle.full_hash_cache.proofs.cache.FullHashCache.take_list.Given as goal

abbrev pub invariant-loop-prefix : goal.invariant-loop-prefix
invariant-loop-prefix l = l.self ≡ put_pairs l.at l.response l.fn.self (pairs_of (take l.prefix-index l.prefixes) l.list)
