use Rattle.std.proofs.Common.{◌≡◌, Some, None, sym, ap, ◌∙◌}
use Rattle.std.specs.Map.{lookup}
use Rattle.std.specs.Option.{option_copied, option_map_or}
use Rattle.lru.specs.LruCache.{promoted}
use Rattle.full_hash_cache.specs.declared.pair.Cached.TheVariants.{Ask}
use Rattle.full_hash_cache.specs.Cache.{pair_of, kept_of_pair, said_by_pair, match_end}
use Rattle.full_hash_cache.proofs.SamePairs.{pair_eq}
use Rattle.full_hash_cache.proofs.cache.FullHashCache.answer.Goals as goal
use Rattle.full_hash_cache.proofs.cache.FullHashCache.answer.Goals.{in-Some, in-None}

pub returns-clause-answer : goal.returns-clause-answer
returns-clause-answer c =
    let pair = pair_of c.args.list c.args.prefix.now in
    let found = sym (λ i. lookup (pair_eq i pair) (c.self.view_is i)) in
    elim c.match-peek.branch [
      | in-Some w ↦
          let kept : kept_of_pair c.args.self.now pair ≡ Some w.in-Some.kept.now = found ∙ sym c.peek.ensures ∙ ap option_copied w.in-Some.is in
          w.answer-is ∙ w.says-answer.ensures
          ∙ sym (ap (λ o. option_map_or (λ kept. said_by_pair c.args.now kept.negative_end (match_end kept.matches c.args.hash.now)) o Ask) kept)
      | in-None w ↦
          let kept : kept_of_pair c.args.self.now pair ≡ None = found ∙ sym c.peek.ensures ∙ ap option_copied w.in-None.is in
          w.answer-is
          ∙ sym (ap (λ o. option_map_or (λ kept. said_by_pair c.args.now kept.negative_end (match_end kept.matches c.args.hash.now)) o Ask) kept)
    ]

pub returns-clause-pairs : goal.returns-clause-pairs
returns-clause-pairs c =
    let pair = pair_of c.args.list c.args.prefix.now in
    let was : c.match-peek.self-inside.pairs.entries ≡ c.args.self.now = elim c.match-peek.branch [
      | in-Some w ↦ ap (λ s. s.pairs.entries) w.self-inside-is ∙ c.self.view_is
      | in-None w ↦ ap (λ s. s.pairs.entries) w.self-inside-is ∙ c.self.view_is
    ] in
    ap (λ s. s.entries) c.promote.ensures.entries ∙ (λ i. promoted (pair_eq i pair) (was i))
