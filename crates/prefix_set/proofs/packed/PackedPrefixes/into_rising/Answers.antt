use Rattle.std.proofs.Common.{refl, ap, ◌∙◌}
use Rattle.sb_model.specs.Prefixes.{set_of}
use Rattle.prefix_set.specs.declared.layout.Layout.TheVariants.{Even}
use Rattle.prefix_set.proofs.SortRising.{set_of-itself}
use Rattle.prefix_set.proofs.PackedList.{Packs, packs, packed_from, members_from}
use Rattle.prefix_set.proofs.PackedSorted.{sorted_packs}
use Rattle.prefix_set.proofs.packed.PackedPrefixes.into_rising.Goals as goal

pub returns-then-rises : goal.returns-then-rises
returns-then-rises c = set_of-itself c.args.self (c.if-rises.ensures.0 refl)

-- the members stand in rising order
sorted : (c : goal.In_ok-sort_quads) → Packs (set_of c.args.self) c.sort_quads.new.bytes.items c.list.inside.layout
sorted c =
    sorted_packs c.args.self c.list.inside.bytes.items c.sort_quads.new.bytes.items c.list.inside.layout
    (packs c.args.self c.list.inside.bytes.items c.list.inside.layout c.list.invariant c.list.view_is) (c.in-Even.is ∙ ap Even c.if-size-eq4.true) c.in_ok-sort_quads.ensures.ok

pub invariant_of-list : goal.invariant_of-list
invariant_of-list c = packed_from (set_of c.args.self) c.sort_quads.new.bytes.items c.list.inside.layout (sorted c)

pub returns : goal.returns
returns c = members_from (set_of c.args.self) c.sort_quads.new.bytes.items c.list.inside.layout (sorted c)
