use Rattle.std.proofs.Common.{ap, arith, ◌∙◌}
use Rattle.std.specs.Prelude.{not, nat_eq}
use Rattle.prefix_set.proofs.PackedList.{Packs, packs, even_of}
use Rattle.prefix_set.proofs.SizeFacts.{sizes_even, some_members}
use Rattle.prefix_set.proofs.packed.PackedPrefixes.sizes.Goals as goal

pub returns-in-Even-clause-occurs : goal.returns-in-Even-clause-occurs
returns-in-Even-clause-occurs c = λ size small.
    let p : Packs c.args.self.now c.self.inside.bytes.items c.self.inside.layout = packs c.args.self.now c.self.inside.bytes.items c.self.inside.layout c.self.invariant c.self.view_is in
    let laid = even_of c.args.self.now c.in-Even.size c.self.inside.bytes.items c.self.inside.layout p c.in-Even.is in
    sizes_even c.in-Even.size c.args.self.now (not c.is_empty.result) laid.1 (omega (arith, laid.0.high))
    (ap not (c.is_empty.ensures ∙ ap (λ n. nat_eq n 0) c.self.inside.bytes.ok.0) ∙ some_members c.args.self.now c.self.inside.bytes.items c.self.inside.layout p) size
