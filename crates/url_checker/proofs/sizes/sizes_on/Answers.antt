use Rattle.std.proofs.Common.{List, subst}
use Rattle.update_client.specs.Held.{Held}
use Rattle.url_checker.specs.Hits.{MarksAll}
use Rattle.url_checker.proofs.sizes.sizes_on.Goals as goal

pub returns : goal.returns
returns c = subst (λ (lists : List Held). MarksAll c.marks_on.result lists) c.lists.ensures.value c.marks_on.ensures
