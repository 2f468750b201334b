use Rattle.std.proofs.Common.{◌∷◌, ◌+◌, List, ℕ, drop, arith, ap, sym, ◌∙◌}
use Rattle.std.proofs.lemmas.List.{drop_more}
use Rattle.std.proofs.lemmas.Option.{get_or_from_slice_get}
use Rattle.prefix_set.proofs.iteration.MembersIterator.next.Goals as goal

pub returns-clause-steps : goal.returns-clause-steps
returns-clause-steps c =
    sym c.self.view_is ∙ drop_more c.self.inside.list.now c.self.inside.next c.at-member.result.now (omega arith)
    ∙ ap (λ (m : List ℕ). m ∷ drop (c.self.inside.next + 1) c.self.inside.list.now)
    (get_or_from_slice_get c.self.inside.list.now c.self.inside.next c.at-member.result.now c.at-member.result.now c.at-member.ensures.value)
