use Rattle.std.proofs.Common.{ℕ, List, ap, sym, subst, ◌∙◌}
use Rattle.sb_model.specs.Prefixes.{IsRising}
use Rattle.prefix_set.specs.Apply.{applied}
use Rattle.prefix_set.proofs.SetFacts.{rising-set_of}
use Rattle.prefix_set.proofs.MergeFacts.{same_applied, applied_set_of}
use Rattle.prefix_set.proofs.merge.merged.Goals as goal

pub merge_rising-requires-clause-additions : goal.merge_rising-requires-clause-additions
merge_rising-requires-clause-additions g c = subst IsRising (sym c.in_ok-additions.ensures) (rising-set_of c.args.additions)

pub returns-clause-set : goal.returns-clause-set
returns-clause-set g c =
    c.finish-2.ensures.members ∙ c.in_ok-set.ensures
    ∙ ap (λ (numbers : List ℕ). applied c.args.old.now numbers c.in_ok-additions.additions) c.deref.ensures.value
    ∙ same_applied c.args.old.now c.rising_numbers-removals.result.items c.args.removals.items c.in_ok-additions.additions c.rising_numbers-removals.ensures.members
    ∙ ap (applied c.args.old.now c.args.removals.items) c.in_ok-additions.ensures
    ∙ applied_set_of c.args.old.now c.args.removals.items c.args.additions
