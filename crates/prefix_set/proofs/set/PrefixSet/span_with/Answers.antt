use Rattle.std.proofs.Common.{◌≡◌, ◌+◌, subst, sym, map, ◌∙◌}
use Rattle.std.specs.List.Sorted.{IsNonDecreasing}
use Rattle.prefix_set.specs.Index.{IsIndexOf, head_number, count_below}
use Rattle.prefix_set.specs.declared.index.HeadIndex.{HeadIndex}
use Rattle.prefix_set.proofs.LookupFacts.{heads_in_order, start_of_heads}
use Rattle.prefix_set.proofs.set.PrefixSet.span_with.Goals as goal

pub heads_below-requires : goal.heads_below-requires
heads_below-requires c =
    let store = c.self.inside.store in
    let is : c.in-Heads.heads.items ≡ map head_number store = subst (λ (index : HeadIndex). IsIndexOf index store) c.in-Heads.is c.self.invariant.is in
    subst IsNonDecreasing (sym c.deref.ensures.value) (heads_in_order store c.self.invariant.set.rising c.self.invariant.heads c.in-Heads.heads.items is)

pub heads_below-requires-in-Heads : goal.heads_below-requires-in-Heads
heads_below-requires-in-Heads c =
    let store = c.self.inside.store in
    let is : c.in-Heads.heads.items ≡ map head_number store = subst (λ (index : HeadIndex). IsIndexOf index store) c.in-Heads.is c.self.invariant.is in
    subst IsNonDecreasing (sym c.deref-in-Heads.ensures.value) (heads_in_order store c.self.invariant.set.rising c.self.invariant.heads c.in-Heads.heads.items is)

pub returns-in-Heads-clause-start : goal.returns-in-Heads-clause-start
returns-in-Heads-clause-start c =
    let store = c.self.inside.store in
    let is : c.in-Heads.heads.items ≡ map head_number store = subst (λ (index : HeadIndex). IsIndexOf index store) c.in-Heads.is c.self.invariant.is in
    start_of_heads store c.self.invariant.set.rising c.self.invariant.heads c.in-Heads.heads.items c.deref.result.now _ c.heads_below.result
    c.deref.ensures.value is c.heads_below.ensures.within c.heads_below.ensures.front c.heads_below.ensures.back
    ∙ (λ i. count_below (c.self.view_is i) (c.from.ensures i))

pub returns-in-Heads-clause-end : goal.returns-in-Heads-clause-end
returns-in-Heads-clause-end c =
    let store = c.self.inside.store in
    let is : c.in-Heads.heads.items ≡ map head_number store = subst (λ (index : HeadIndex). IsIndexOf index store) c.in-Heads.is c.self.invariant.is in
    start_of_heads store c.self.invariant.set.rising c.self.invariant.heads c.in-Heads.heads.items c.deref-in-Heads.result.now _ c.heads_below-in-Heads.result
    c.deref-in-Heads.ensures.value is c.heads_below-in-Heads.ensures.within c.heads_below-in-Heads.ensures.front c.heads_below-in-Heads.ensures.back
    ∙ (λ i. count_below (c.self.view_is i) (c.from-in-Heads.ensures i + 1))
