use Rattle.std.proofs.Common.{◌≡◌, ◌∙◌, List, map, ap}
use Rattle.std.specs.Prelude.{filter}
use Rattle.hash_prefixes.specs.declared.hashes.FullHash.{FullHash}
use Rattle.sb_model.specs.declared.history.Added.{Added}
use Rattle.sb_model.specs.Prefixes.{set_of}
use Rattle.list_versions.specs.Buckets.{added_of}
use Rattle.list_versions.specs.Live.{Holds}
use Rattle.list_versions.specs.Lookup.{begins}
use Rattle.list_versions.proofs.Begun.{all_whole, begun_same, rising_of, for_each}
use Rattle.list_versions.proofs.lookup.hashes_with.Goals as goal

pub rising-requires : goal.rising-requires
rising-requires c = rw (c.as_slice.ensures.value, c.in_ok-found.ensures.value) (all_whole c.args.prefix.now (added_of c.lines_at.result.now) c.in_ok-found.ensures.whole)

pub returns : goal.returns
returns c =
    for_each (List Added) c.rising.result (λ (row : List FullHash) (entries : List Added). map (λ (hash : FullHash). hash.bytes) row ≡ set_of (filter (begins c.args.prefix.now) (map (λ (entry : Added). entry.hash) entries)))
    (Holds c.args.live.now) (λ entries holds. rising_of c.rising.result c.as_slice.result.now _
    (c.as_slice.ensures.value ∙ c.in_ok-found.ensures.value ∙ ap (λ es. filter (begins c.args.prefix.now) (map (λ (entry : Added). entry.hash) es)) (ap added_of c.lines_at.ensures ∙ holds.buckets c.head_of-head.result)
    ∙ begun_same c.args.prefix.now c.head_of-head.result entries c.head_of-head.ensures.long c.head_of-head.ensures.value) c.rising.ensures)
