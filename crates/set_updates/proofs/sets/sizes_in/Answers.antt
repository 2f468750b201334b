use Rattle.std.proofs.Common.{◌≡◌, ◌<◌, ◌∙◌, true, false, length, refl, ap, arith}
use Rattle.std.specs.Prelude.{slice_set, slice_index_or}
use Rattle.std.proofs.lemmas.List.{length-set}
use Rattle.set_updates.proofs.SetFacts.{none_set, sizes_more}
use Rattle.set_updates.proofs.sets.sizes_in.Goals as goal

pub loop-member-init : goal.loop-member-init
loop-member-init c = record { occurs = λ size small. none_set 33 size; length = refl }

pub loop-member-preserved : goal.loop-member-preserved
loop-member-preserved c =
    let sizes = c.loop-member.sizes in
    let member = c.member-item.result in
    let own : c.size.result ≡ length member = c.size.ensures.value in
    let within : length member < length sizes = omega (arith, c.size.ensures.at_most, own, c.loop-member.invariant.length) in
    record {
      occurs = λ size small.
          ap (λ n. slice_index_or (slice_set sizes n true) size false) own
          ∙ sizes_more sizes c.args.members.now c.loop-member.member-index member c.loop-member-test.true c.member-item.is within c.loop-member.invariant.occurs size small;
      length = length-set sizes c.size.result true ∙ c.loop-member.invariant.length;
    }
