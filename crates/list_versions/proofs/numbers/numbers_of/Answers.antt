use Rattle.std.proofs.Common.{◌≡◌, ◌∙◌, List, ℕ, map, ap, subst}
use Rattle.std.specs.Prelude.{All, nat_eq}
use Rattle.std.specs.Int.{w32, from_le_bytes}
use Rattle.std.proofs.lemmas.List.Filters.{dedup_is}
use Rattle.list_versions.specs.Numbers.{Tells, quads_in}
use Rattle.list_versions.proofs.Numbered.{in_order}
use Rattle.list_versions.proofs.numbers.numbers_of.Goals as goal

pub returns : goal.returns
returns c =
    let quads : c.quads_of.result.now ≡ quads_in c.args.set.now = c.quads_of.ensures c.args.set.now (c.as_slice.ensures ∙ c.in_ok-bytes.ensures) in
    in_order c.args.set.now c.in_ok-numbers.numbers.items c.sort_unstable.new.self.items c.dedup.new.self.items
    (subst (λ (qs : List (List ℕ)). All Tells qs) quads c.in_ok-numbers.ensures.tell) (c.in_ok-numbers.ensures.numbers ∙ ap (map (from_le_bytes w32)) quads)
    c.sort_unstable.ensures.permutation c.sort_unstable.ensures.sorted (dedup_is nat_eq _ _ c.dedup.ensures.filtered)
