use Rattle.std.proofs.Common.{◌≡◌, take}
use Rattle.full_hash_cache.specs.Cache.{put_pairs, pairs_asked}
use Rattle.full_hash_cache.proofs.cache.FullHashCache.take.Given as goal

abbrev pub invariant-loop-list : goal.invariant-loop-list
invariant-loop-list l = l.self ≡ put_pairs l.at l.response l.fn.self (pairs_asked l.request (take l.list-index l.lists))
