use Rattle.std.proofs.Common.{ℕ, List, subst, sym, ◌∙◌}
use Rattle.std.specs.Prelude.{◌↔◌, ◌⊎◌}
use Rattle.std.specs.List.{Contains}
use Rattle.prefix_set.specs.Apply.{applied, Stays}
use Rattle.prefix_set.proofs.ApplyFacts.{members-applied}
use Rattle.prefix_set.proofs.set.PrefixSet.apply.Goals as goal

pub returns-clause-members : goal.returns-clause-members
returns-clause-members c x =
    subst (λ (s : List (List ℕ)). Contains s x ↔ (Stays c.args.self.now c.args.removals.now x ⊎ Contains c.args.additions.now x))
    (sym (c.in_ok-changed.ensures.ok ∙ (λ i. applied c.args.self.now (c.in_ok-removals.ensures i) (c.in_ok-additions.ensures i))))
    (members-applied c.args.self.now c.args.removals.now c.args.additions.now x)
