use Rattle.std.proofs.Common.{◌<◌, ◌∙◌}
use Rattle.std.proofs.lemmas.List.Elements.{All-from_get_or}
use Rattle.prefix_set.proofs.SortFacts.{quads_compare}
use Rattle.prefix_set.proofs.sorting.compare_quad.Goals as goal

pub returns : goal.returns
returns c =
    c.cmp.ensures ∙ rw (c.from_be_bytes.ensures, c.from_be_bytes-2.ensures)
    (quads_compare c.args.first.now c.args.second.now c.told-first c.told-second
    (All-from_get_or (λ byte. byte < 256) c.args.first.now 0 (λ i below. c.fits-first i))
    (All-from_get_or (λ byte. byte < 256) c.args.second.now 0 (λ i below. c.fits-second i)))
