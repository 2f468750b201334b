use Rattle.std.proofs.Common.{sym, ap, ◌∙◌, arith}
use Rattle.std.proofs.lemmas.List.{take-map, length-map}
use Rattle.sb_model.specs.Time.{later_than}
use Rattle.full_hash_cache.specs.Cache.{pair_of, matches_for, with_pair, kept_after, put_pair, put_pairs, pairs_of, IsPartlyTaken}
use Rattle.full_hash_cache.proofs.Steps.{one_more, on_err}
use Rattle.full_hash_cache.proofs.cache.FullHashCache.take_list.Goals as goal

pub returns-in_err-put-clause-err : goal.returns-in_err-put-clause-err
returns-in_err-put-clause-err c =
    let i = c.loop-prefix.prefix-index in
    let prefixes = c.args.prefixes.now in
    let part : IsPartlyTaken c.args.at c.args.response.now (pairs_of prefixes c.args.list) c.args.self.now c.put.new.self = record {
      count = i;
      within = let l = length-map prefixes (pair_of c.args.list) in let lt = c.loop-prefix-test.true in omega (arith, l, lt);
      front = c.in_err-put.ensures.err ∙ c.loop-prefix.invariant
          ∙ ap (put_pairs c.args.at c.args.response.now c.args.self.now) (sym (take-map (pair_of c.args.list) i prefixes));
    } in
    on_err _ _ part

pub loop-prefix-preserved : goal.loop-prefix-preserved
loop-prefix-preserved c =
    let at = c.args.at in
    let response = c.args.response.now in
    let x = c.prefix-item.result in
    let pair = pair_of c.args.list x in
    let had = c.loop-prefix.self in
    let found = c.in_ok-found.ensures.value ∙ ap (matches_for at c.args.list) c.as_slice.ensures in
    let end = c.later-negative_end.ensures ∙ ap (later_than at) c.cache_ms.ensures in
    c.in_ok-put.ensures.ok
    ∙ (λ i. with_pair had pair (kept_after at (end i) (found i) had pair))
    ∙ ap (λ s. put_pair at response s pair) c.loop-prefix.invariant
    ∙ sym (one_more (put_pair at response) c.args.self.now (pair_of c.args.list) c.args.prefixes.now c.loop-prefix.prefix-index x c.loop-prefix-test.true c.prefix-item.is)
