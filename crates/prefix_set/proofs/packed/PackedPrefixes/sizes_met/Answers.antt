use Rattle.std.proofs.Common.{◌<◌, ◌∙◌, true, length, refl, arith}
use Rattle.std.proofs.lemmas.List.{length-set}
use Rattle.prefix_set.proofs.SizeFacts.{none_met, sizes_more}
use Rattle.prefix_set.proofs.packed.PackedPrefixes.sizes_met.Goals as goal

pub loop-i-init : goal.loop-i-init
loop-i-init c = record { occurs = λ size small. none_met 33 size; length = refl }

pub loop-i-preserved : goal.loop-i-preserved
loop-i-preserved c =
    let within : length c.at.result.now < length c.loop-i.sizes = omega (arith, c.at.ensures.size.high, c.loop-i.invariant.length) in
    record {
      occurs = sizes_more c.loop-i.sizes c.args.self.now c.loop-i.i c.at.result.now c.at.ensures.value within c.loop-i.invariant.occurs;
      length = length-set c.loop-i.sizes (length c.at.result.now) true ∙ c.loop-i.invariant.length;
    }
