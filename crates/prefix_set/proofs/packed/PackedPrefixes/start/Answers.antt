use Rattle.std.proofs.Common.{arith, ◌∙◌}
use Rattle.prefix_set.proofs.PackedList.{Packs, packs, len_mixed, start_fits, start_by_size, start_by_ends}
use Rattle.prefix_set.proofs.packed.PackedPrefixes.start.Goals as goal

pub overflow_mul-result : goal.overflow_mul-result
overflow_mul-result c =
    let p : Packs c.args.self.now c.self.inside.bytes.items c.self.inside.layout = packs c.args.self.now c.self.inside.bytes.items c.self.inside.layout c.self.invariant c.self.view_is in
    omega (
      arith,
      start_by_size c.args.self.now c.args.i c.in-Even.size c.self.inside.bytes.items c.self.inside.layout p c.in-Even.is c.requires,
      start_fits c.args.self.now c.args.i c.self.inside.bytes.items c.self.inside.layout p,
    )

pub index-requires : goal.index-requires
index-requires c =
    let p : Packs c.args.self.now c.self.inside.bytes.items c.self.inside.layout = packs c.args.self.now c.self.inside.bytes.items c.self.inside.layout c.self.invariant c.self.view_is in
    omega (arith, c.in-Mixed-2.ends.ok.0, len_mixed c.args.self.now c.in-Mixed-2.ends c.self.inside.bytes.items c.self.inside.layout p c.in-Mixed-2.is)

pub returns-in-Even : goal.returns-in-Even
returns-in-Even c =
    start_by_size c.args.self.now c.args.i c.in-Even.size c.self.inside.bytes.items c.self.inside.layout
    (packs c.args.self.now c.self.inside.bytes.items c.self.inside.layout c.self.invariant c.self.view_is) c.in-Even.is c.requires

pub returns-in-Mixed-2 : goal.returns-in-Mixed-2
returns-in-Mixed-2 c =
    c.index.ensures ∙ start_by_ends c.args.self.now c.args.i c.index.result.now c.in-Mixed-2.ends c.self.inside.bytes.items c.self.inside.layout
    (packs c.args.self.now c.self.inside.bytes.items c.self.inside.layout c.self.invariant c.self.view_is) c.in-Mixed-2.is c.if-i-eq0.false c.requires
