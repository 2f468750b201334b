use Rattle.std.proofs.Common.{◌<◌, ◌/◌, length, arith, ◌∙◌}
use Rattle.std.proofs.lemmas.List.Elements.{All-from_get_or}
use Rattle.prefix_set.proofs.SortedQuads.{chunks_are}
use Rattle.prefix_set.proofs.sorting.quads_of.Goals as goal

pub returns-clause-value : goal.returns-clause-value
returns-clause-value c = c.as_chunks.ensures.front ∙ chunks_are 4 (length c.args.bytes.now / 4) c.args.bytes.now

pub returns-clause-bytes : goal.returns-clause-bytes
returns-clause-bytes c = All-from_get_or (λ byte. byte < 256) c.args.bytes.now 0 (λ i below. omega (arith, c.type_inv.bytes i))
