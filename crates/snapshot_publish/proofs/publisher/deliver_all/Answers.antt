use Rattle.std.proofs.Common.{◌≡◌, List, [], ◌∷◌, ◌++◌, length, ap, ◌∙◌, subst, All, arith, length-append}
use Rattle.snapshot_publish.specs.Publications.{Publication}
use Rattle.snapshot_publish.specs.Kept.{delivered}
use Rattle.snapshot_publish.proofs.Boxes.{done_more, all_front, all_last}
use Rattle.snapshot_publish.proofs.publisher.deliver_all.Goals as goal

pub loop-place-preserved : goal.loop-place-preserved
loop-place-preserved g c =
    let inv = c.loop-place.invariant in let next : Publication = c.args.next.now in let P : Publication → Type 0 = λ copy. copy ≡ next in
    let were : c.loop-place.copies ≡ c.pop.new.self ++ c.in-Some.copy ∷ [] = c.in-Some.ensures.some in
    let all : All P (c.pop.new.self ++ c.in-Some.copy ∷ []) = subst (λ (l : List Publication). All P l) were inv.each in
    let same : c.in-Some.copy ≡ next = all_last P c.pop.new.self c.in-Some.copy all in
    let long : length c.loop-place.copies ≡ length (c.pop.new.self ++ c.in-Some.copy ∷ []) = ap length were in
    let more = length-append c.pop.new.self (c.in-Some.copy ∷ []) in let left = inv.left in record {
      done = done_more (delivered next) c.args.ends.now c.loop-place.ends c.loop-place.place c.at_mut.result.now c.deliver.new.self inv.done c.at_mut.ensures.value
          (c.deliver.ensures ∙ ap (λ (p : Publication). delivered p c.at_mut.result.now) same);
      left = omega arith;
      within = omega arith;
      each = all_front P c.pop.new.self (c.in-Some.copy ∷ []) all;
    }
