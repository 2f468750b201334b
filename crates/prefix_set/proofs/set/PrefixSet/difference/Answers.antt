use Rattle.std.proofs.Common.{subst, ◌∙◌}
use Rattle.prefix_set.specs.Limits.{IsPrefixSet}
use Rattle.prefix_set.proofs.ApplyFacts.{difference_leads, difference_applies}
use Rattle.prefix_set.proofs.set.PrefixSet.difference.Goals as goal

pub returns-clause-leads : goal.returns-clause-leads
returns-clause-leads c =
    difference_leads c.args.self.now c.args.newer.now c.packed-held.result.now c.packed-wanted.result.now c.in_ok-additions.additions c.in_ok-removals.removals
    (subst IsPrefixSet c.newer.view_is c.packed-wanted.ensures.set) (c.packed-held.ensures.value ∙ c.self.view_is) (c.packed-wanted.ensures.value ∙ c.newer.view_is)
    c.in_ok-removals.ensures c.in_ok-additions.ensures

pub returns-clause-applies : goal.returns-clause-applies
returns-clause-applies c =
    difference_applies c.args.self.now c.args.newer.now c.packed-held.result.now c.packed-wanted.result.now c.in_ok-additions.additions c.in_ok-removals.removals
    (subst IsPrefixSet c.newer.view_is c.packed-wanted.ensures.set) (c.packed-held.ensures.value ∙ c.self.view_is) (c.packed-wanted.ensures.value ∙ c.newer.view_is)
    c.in_ok-removals.ensures c.in_ok-additions.ensures
