use Rattle.std.proofs.Common.{ap, ◌∙◌}
use Rattle.std.proofs.lemmas.Result.{IfOk-weaker}
use Rattle.sb_model.specs.Prefixes.{set_of}
use Rattle.prefix_set.proofs.SetFacts.{sorted_without_repeats}
use Rattle.prefix_set.proofs.packed.PackedPrefixes.sorted_members.Goals as goal

pub returns : goal.returns
returns c =
    IfOk-weaker c.from_prefixes.result _ _
    (λ packed is. is ∙ c.deref.ensures.value
    ∙ sorted_without_repeats _ _ _ c.sort_unstable.ensures.permutation c.sort_unstable.ensures.sorted c.dedup.ensures.filtered ∙ ap set_of c.in_ok-prefixes.ensures)
    c.from_prefixes.ensures
