use Rattle.std.proofs.Common.{◌≡◌, [], ◌++◌, sym, ap, ◌∙◌}
use Rattle.std.specs.List.{fold}
use Rattle.std.proofs.lemmas.List.Sums.{fold-append}
use Rattle.lru.specs.LruCache.{lru_cache, put_entries}
use Rattle.full_hash_cache.specs.Cache.{latest, alive, kept_matches_of, beginning_with, with_match}
use Rattle.full_hash_cache.proofs.SamePairs.{pair_eq}
use Rattle.full_hash_cache.proofs.cache.FullHashCache.put.Goals as goal

pub returns-clause-ok : goal.returns-clause-ok
returns-clause-ok c =
    let old = alive c.args.at (kept_matches_of c.args.self.now c.args.pair) in
    let new = beginning_with c.args.pair.prefix c.args.found.now.entries in
    let matches : c.put_beginning.new.matches.entries ≡ latest (old ++ new)
    = c.in_ok-put_beginning.ensures ∙ (λ i. fold with_match (c.in_ok-matches.ensures i) new) ∙ sym (fold-append with_match [] old new) in
    ap (λ s. s.entries) c.in_ok-put.ensures.entries
    ∙ (λ i. put_entries (pair_eq i) (lru_cache (c.self.view_is i) (c.self.invariant i)) c.args.pair (record { negative_end = c.args.negative_end; matches = matches i }))
