use Rattle.std.proofs.Common.{Bool, sym, ap, ◌∙◌, arith}
use Rattle.std.specs.Prelude.{if◌then◌else◌}
use Rattle.mirror_places.proofs.SizeFacts.{each_four, not_four}
use Rattle.mirror_places.proofs.answering.removal_size.Goals as goal

pub returns : goal.returns
returns c = sym (ap (λ (b : Bool). if b then 4 else 0) (each_four c.args.set.now c.len.ensures.prefixes
    (λ n low high. sym (c.sizes-sizes.ensures.occurs n high) ∙ c.loop-size.invariant n low (omega (arith, high)))))

pub returns-then-sizes-size : goal.returns-then-sizes-size
returns-then-sizes-size c = sym (ap (λ (b : Bool). if b then 4 else 0) (not_four c.args.set.now c.loop-size.size c.loop-size.auto.size
    (sym (c.sizes-sizes.ensures.occurs c.loop-size.size c.loop-size-test.true) ∙ c.if-sizes-size.true)))
