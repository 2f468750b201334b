use Rattle.std.proofs.Common.{◌≡◌, List, ℕ, ◌∙◌}
use Rattle.std.proofs.lemmas.Result.{IfOk-weaker}
use Rattle.sb_model.specs.Prefixes.{concatenation}
use Rattle.prefix_set.proofs.PackedList.{packs}
use Rattle.prefix_set.proofs.SizeFacts.{sized, even_bytes, even_none}
use Rattle.prefix_set.proofs.packed.PackedPrefixes.bytes_of_size.Goals as goal

pub returns-in-Even : goal.returns-in-Even
returns-in-Even c =
    IfOk-weaker c.from_slice.result (λ (bytes : List ℕ). bytes ≡ c.deref.result.now) (λ (bytes : List ℕ). bytes ≡ concatenation (sized c.args.size c.args.self.now))
    (λ bytes is. is ∙ c.deref.ensures.value ∙ even_bytes c.args.self.now c.in-Even.own c.args.size c.self.inside.bytes.items c.self.inside.layout
    (packs c.args.self.now c.self.inside.bytes.items c.self.inside.layout c.self.invariant c.self.view_is) c.in-Even.is c.if-own-size.true)
    c.from_slice.ensures

pub returns-in-Even-2 : goal.returns-in-Even-2
returns-in-Even-2 c =
    c.new.ensures ∙ even_none c.args.self.now c.in-Even.own c.args.size c.self.inside.bytes.items c.self.inside.layout
    (packs c.args.self.now c.self.inside.bytes.items c.self.inside.layout c.self.invariant c.self.view_is) c.in-Even.is c.if-own-size.false
