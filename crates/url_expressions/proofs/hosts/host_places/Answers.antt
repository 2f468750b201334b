use Rattle.std.proofs.Common.{◌≡◌, ◌-◌, ◌+◌, ◌∷◌, [], All, length, drop, get_or, cond, ◌≤◌, refl, sym, ap, subst, ◌∙◌, arith}
use Rattle.std.specs.Prelude.{map, nat_le}
use Rattle.std.proofs.lemmas.Bool.{cond_both}
use Rattle.url_expressions.specs.Expressions.{components, hosts_of, first_occurrences}
use Rattle.url_expressions.proofs.Pieces.{pushed, pushed_within}
use Rattle.url_expressions.proofs.Backs.{number_at, host_pushed, first_host, first_within}
use Rattle.url_expressions.proofs.Components.{length-components}
use Rattle.url_expressions.proofs.hosts.host_places.Goals as goal

pub returns-then-is_address-clause-value : goal.returns-then-is_address-clause-value
returns-then-is_address-clause-value c =
    let host = c.args.host.now in
    first_host host c.in_ok-places.places.items c.push.new.self.items c.in_ok-places.ensures.items c.in_ok-push.ensures.items
    ∙ ap (λ b. first_occurrences (hosts_of host b)) (sym c.if-is_address.true)

pub component_place-place-requires : goal.component_place-place-requires
component_place-place-requires c = omega (arith, c.count_components-count.ensures, c.saturating_sub.ensures, length-components c.args.host.now)

pub loop-n-init : goal.loop-n-init
loop-n-init c =
    let host = c.args.host.now in
    let none = c.in_ok-places.ensures.items in
    let one = c.in_ok-push.ensures.items in
    record {
      within = c.component_place-place.ensures.within;
      there = c.component_place-place.ensures.value ∙ ap (λ k. drop k (components host)) (c.saturating_sub.ensures ∙ ap (λ m. m - 5) c.count_components-count.ensures);
      all_within = first_within (length host) c.in_ok-places.places.items c.push.new.self.items none one;
      value = first_host host c.in_ok-places.places.items c.push.new.self.items none one;
    }

pub loop-n-preserved : goal.loop-n-preserved
loop-n-preserved c =
    let host = c.args.host.now in
    let i = c.loop-n.n-index in
    let place = c.loop-n.place in
    let inv = c.loop-n.invariant in
    let n = get_or (5 ∷ 4 ∷ 3 ∷ 2 ∷ []) i 0 in
    let number : n ≡ 5 - i = number_at i c.loop-n-test.true in
    let less : n - 1 ≡ 5 - (i + 1) = omega arith in
    let there : components (drop place host) ≡ drop (length (components host) - n) (components host) = inv.there ∙ ap (λ m. drop (length (components host) - m) (components host)) (sym number) in
    let grown = c.in_ok-place.ensures.places ∙ ap (λ m. cond (nat_le n m) (pushed c.loop-n.places.items place) c.loop-n.places.items) c.count_components-count.ensures in
    record {
      within = c.in_ok-place.ensures.within;
      there = c.in_ok-place.ensures.next ∙ ap (λ m. drop (m - (n - 1)) (components host)) c.count_components-count.ensures ∙ ap (λ m. drop (length (components host) - m) (components host)) less;
      all_within = subst (All (λ p. p ≤ length host)) (sym grown) (cond_both (nat_le n (length (components host))) (pushed c.loop-n.places.items place) c.loop-n.places.items (All (λ p. p ≤ length host)) (λ _. pushed_within (length host) c.loop-n.places.items place inv.all_within inv.within) (λ _. inv.all_within));
      value = ap (λ ps. map (λ p. drop p host) ps) grown ∙ host_pushed host c.loop-n.places.items place n i c.loop-n-test.true refl inv.within inv.all_within there inv.value;
    }
