use Rattle.std.proofs.Common.{◌≡◌, List, ap, ◌∙◌, subst}
use Rattle.update_client.specs.Held.{Held}
use Rattle.snapshot_publish.specs.Publications.{Publication}
use Rattle.url_checker.specs.Hits.{MarksAll}
use Rattle.parallel_checks.proofs.showing.with_sizes.Goals as goal

pub invariant_of-result : goal.invariant_of-result
invariant_of-result c =
    let same : c.deref.result.now ≡ c.args.last.lists = c.deref.ensures ∙ ap (λ (p : Publication). p.lists) c.last.view_is in
    record { marked = subst (λ (l : List Held). MarksAll c.sizes_on-sizes.result.marks l) same c.sizes_on-sizes.ensures }
