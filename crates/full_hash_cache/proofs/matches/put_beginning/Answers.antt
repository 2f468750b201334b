use Rattle.std.proofs.Common.{◌-◌, length, ap, ◌∙◌}
use Rattle.std.specs.List.{fold}
use Rattle.std.specs.Ordering.{is_gt}
use Rattle.std.specs.BTreeMap.Range.{entries_between}
use Rattle.std.specs.declared.ops.Bound.TheVariants.{Included}
use Rattle.sb_model.specs.Prefixes.{bytes_cmp}
use Rattle.full_hash_cache.specs.Cache.{with_match}
use Rattle.full_hash_cache.proofs.Ranges.{hash_order, in_order, within}
use Rattle.full_hash_cache.proofs.matches.put_beginning.Goals as goal

pub range-hash-items-requires : goal.range-hash-items-requires
range-hash-items-requires c =
    (λ i. is_gt (hash_order i (c.new.ensures.start i) (c.new.ensures.end i)))
    ∙ (λ i. is_gt (bytes_cmp (c.least-low.ensures.value i) (c.greatest-high.ensures i)))
    ∙ in_order c.args.prefix.now (32 - length c.args.prefix.now)

pub loop-hash-init : goal.loop-hash-init
loop-hash-init c =
    let found = c.args.found.now.entries in
    let items = c.into_iter-hash-iterator.ensures.into_iter_gives ∙ c.range-hash-items.ensures.between c.new.ensures.exhausted
    ∙ (λ i. entries_between (hash_order i) (Included (c.new.ensures.start i)) (Included (c.new.ensures.end i)) found)
    ∙ within c.args.prefix.now c.least-low.result c.greatest-high.result c.least-low.ensures.short c.least-low.ensures.value c.greatest-high.ensures found c.requires in
    ap (fold with_match c.args.matches.now.entries) items
