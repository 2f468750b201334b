use Rattle.prefix_set.proofs.PackedEqual.{lists_equal, even_equal}
use Rattle.prefix_set.proofs.PackedList.{packs}
use Rattle.prefix_set.proofs.packed.PackedPrefixesPartialEq.eq.Goals as goal

pub returns : goal.returns
returns c =
    even_equal c.eq.result c.args.self.now c.args.other.now c.in-Even.size c.in-Even-layout.others c.self.inside.bytes.items c.other.inside.bytes.items
    c.as_slice.result.now c.as_slice-2.result.now c.self.inside.layout c.other.inside.layout
    (packs c.args.self.now c.self.inside.bytes.items c.self.inside.layout c.self.invariant c.self.view_is)
    (packs c.args.other.now c.other.inside.bytes.items c.other.inside.layout c.other.invariant c.other.view_is)
    c.in-Even.is c.in-Even-layout.is c.if-size-others.true c.as_slice.ensures.value c.as_slice-2.ensures.value c.eq.ensures

pub returns-2 : goal.returns-2
returns-2 c = lists_equal c.has_members_of.result c.args.self.now c.args.other.now c.has_members_of.ensures
