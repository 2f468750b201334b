use Rattle.std.proofs.Common.{◌∙◌}
use Rattle.prefix_set.proofs.PackedList.{packs, len_even, len_mixed}
use Rattle.prefix_set.proofs.packed.PackedPrefixes.len.Goals as goal

pub returns-in-Even : goal.returns-in-Even
returns-in-Even c =
    len_even c.args.self.now c.in-Even.size c.len.result c.self.inside.bytes.items c.self.inside.layout
    (packs c.args.self.now c.self.inside.bytes.items c.self.inside.layout c.self.invariant c.self.view_is) c.in-Even.is (c.len.ensures ∙ c.self.inside.bytes.ok.0)

pub returns-in-Mixed : goal.returns-in-Mixed
returns-in-Mixed c =
    c.len-in-Mixed.ensures ∙ c.in-Mixed.ends.ok.0 ∙ len_mixed c.args.self.now c.in-Mixed.ends c.self.inside.bytes.items c.self.inside.layout
    (packs c.args.self.now c.self.inside.bytes.items c.self.inside.layout c.self.invariant c.self.view_is) c.in-Mixed.is
