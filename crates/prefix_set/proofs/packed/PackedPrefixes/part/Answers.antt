use Rattle.std.proofs.Common.{◌+◌, arith, ap, length}
use Rattle.prefix_set.proofs.PackedList.{packs, count_below, start_order, start_reaches, part_is}
use Rattle.prefix_set.proofs.packed.PackedPrefixes.part.Goals as goal

pub overflow_add-from : goal.overflow_add-from
overflow_add-from c =
    omega (
      arith,
      count_below c.args.self.now c.self.inside.bytes.items c.self.inside.layout
          (packs c.args.self.now c.self.inside.bytes.items c.self.inside.layout c.self.invariant c.self.view_is),
    )

pub slice_bounds-result-count : goal.slice_bounds-result-count
slice_bounds-result-count c = omega (arith, start_order c.args.from c.args.count c.args.self.now)

pub slice_bounds-result-start : goal.slice_bounds-result-start
slice_bounds-result-start c = omega (arith, start_order c.args.from c.args.count c.args.self.now)

pub slice_bounds-result-end : goal.slice_bounds-result-end
slice_bounds-result-end c =
    omega (
      arith,
      start_order c.args.from c.args.count c.args.self.now,
      ap length c.as_slice-bytes.ensures.value,
      start_reaches c.args.self.now (c.args.from + c.args.count) c.self.inside.bytes.items c.self.inside.layout
          (packs c.args.self.now c.self.inside.bytes.items c.self.inside.layout c.self.invariant c.self.view_is),
    )

pub returns-clause-value : goal.returns-clause-value
returns-clause-value c =
    part_is c.args.self.now c.args.from c.args.count c.start-start.result c.start-end.result c.self.inside.bytes.items c.as_slice-bytes.result.now c.self.inside.layout
    (packs c.args.self.now c.self.inside.bytes.items c.self.inside.layout c.self.invariant c.self.view_is)
    c.as_slice-bytes.ensures.value c.start-start.ensures c.start-end.ensures
