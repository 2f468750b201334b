use Rattle.std.proofs.Common.{ℕ, ◌<◌, List, subst, ap, ◌∙◌, slice_index}
use Rattle.prefix_set.specs.Index.{head_number}
use Rattle.prefix_set.proofs.LookupFacts.{span_of_prefix}
use Rattle.prefix_set.proofs.set.PrefixSet.span_of.Goals as goal

pub returns : goal.returns
returns c =
    span_of_prefix c.args.self.now c.args.prefix.now c.head_of.result c.span_with.result.start c.span_with.result.end c.span_with.ensures.rising c.span_with.ensures.heads
    (subst (λ (x : List ℕ). slice_index x 1 < 256) c.as_bytes.ensures c.head_of.ensures.second) (c.head_of.ensures.value ∙ ap head_number c.as_bytes.ensures)
    c.span_with.ensures.start c.span_with.ensures.end
