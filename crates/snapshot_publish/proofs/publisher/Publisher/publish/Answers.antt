use Rattle.std.proofs.Common.{◌≡◌, ℕ, ◌+◌, ◌-◌, List, [], ◌∷◌, ◌++◌, length, map, drop, ap, sym, ◌∙◌, subst, arith}
use Rattle.snapshot_publish.specs.Publications.{Publication, most_kept}
use Rattle.snapshot_publish.specs.Publishing.{Known, Publishing, box_of}
use Rattle.snapshot_publish.specs.Kept.{IsPublisher}
use Rattle.snapshot_publish.proofs.Boxes.{few_kept, publisher_more, boxes_stay}
use Rattle.snapshot_publish.proofs.publisher.Publisher.publish.Goals as goal

pub trim-requires : goal.trim-requires
trim-requires g c =
    let few = few_kept c.self.inside.ends c.self.inside.kept.items c.self.inside.last c.in_ok-copy.field-0 c.self.invariant in
    let long = ap length c.in_ok-keep.ensures.ok in omega (arith, few, long)

pub invariant_of-self-2 : goal.invariant_of-self-2
invariant_of-self-2 g c =
    let next : Publication = c.in_ok-next.next in let kept = c.self.inside.kept.items in let ends = c.self.inside.ends in let last : ℕ = c.self.inside.last in
    let number : next.number ≡ last + 1 = ap (λ (p : Publication). p.number) c.in_ok-next.ensures in
    let cut : List Publication → List Publication = λ l. drop (length l - most_kept) l in
    let are = c.deliver_all.ensures in
    let is = c.trim.ensures ∙ (ap cut c.in_ok-keep.ensures.ok ∙ ap (λ (p : Publication). cut (kept ++ p ∷ [])) c.in_ok-copy.ensures) in
    subst (λ (q : List Known × List Publication). IsPublisher q.0 q.1 (last + 1)) (λ i. (sym are i, sym is i)) (publisher_more ends kept last next c.self.invariant number)

pub returns-clause-boxes : goal.returns-clause-boxes
returns-clause-boxes g c = ap (map box_of) c.deliver_all.ensures ∙ (boxes_stay c.in_ok-next.next c.self.inside.ends ∙ ap (λ (p : Publishing). p.boxes) c.self.view_is)
