use Rattle.std.proofs.Common.{ℕ, List, subst, sym, ◌∙◌}
use Rattle.std.specs.Prelude.{◌↔◌, ◌⊎◌}
use Rattle.std.specs.List.{Contains}
use Rattle.prefix_set.specs.Apply.{applied, Stays}
use Rattle.prefix_set.proofs.ApplyFacts.{members-applied}
use Rattle.prefix_set.proofs.set.PrefixSet.merge.Goals as goal

pub returns-clause-members : goal.returns-clause-members
returns-clause-members c x =
    subst (λ (s : List (List ℕ)). Contains s x ↔ (Stays c.args.self.now c.args.edit.removals x ⊎ Contains c.args.edit.additions x))
    (sym (c.in_ok-set.ensures.ok ∙ (λ i. applied c.args.self.now (c.into_parts-removals.ensures.removals i) (c.into_parts-removals.ensures.additions i))))
    (members-applied c.args.self.now c.args.edit.removals c.args.edit.additions x)
