use Rattle.std.proofs.Common.{◌≡◌}
use Rattle.std.specs.List.{AllAdjacentBelow}
use Rattle.std.specs.declared.cmp.Ordering.TheVariants.{Less}
use Rattle.sb_model.specs.Prefixes.{bytes_cmp}
use Rattle.prefix_set.proofs.sorting.quads_rise.Given as goal

-- each of the prefixes so far comes before the next
abbrev pub invariant-loop-i : goal.invariant-loop-i
invariant-loop-i l = AllAdjacentBelow (λ x y. bytes_cmp x y ≡ Less) l.quads l.i
