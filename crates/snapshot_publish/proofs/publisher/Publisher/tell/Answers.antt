use Rattle.std.proofs.Common.{ℕ, ◌-◌, List, map, ap, sym, ◌∙◌, subst, slice_index_or}
use Rattle.snapshot_publish.specs.Publishing.{Publishing, Told, box_told}
use Rattle.snapshot_publish.specs.Kept.{IsNote}
use Rattle.snapshot_publish.proofs.Boxes.{are_last, note_is, boxes_told}
use Rattle.snapshot_publish.proofs.publisher.Publisher.tell.Goals as goal

pub letters_of-requires : goal.letters_of-requires
letters_of-requires c = are_last c.self.inside.ends c.self.inside.kept.items c.self.inside.last c.in-Some.last.now c.self.invariant
    (c.in-Some.ensures.lookup ∙ ap (λ (n : ℕ). slice_index_or c.self.inside.kept.items (n - 1) c.in-Some.last.now) c.self.inside.kept.ok.0)

pub invariant_of-result : goal.invariant_of-result
invariant_of-result c = subst (λ (l : List Told). IsNote l) (sym c.in_ok-letters.ensures.letters) (note_is c.self.inside.ends c.self.inside.kept.items c.self.inside.last c.self.invariant)

pub returns-clause-boxes : goal.returns-clause-boxes
returns-clause-boxes c = ap (map box_told) c.in_ok-letters.ensures.letters ∙ (boxes_told c.self.inside.ends ∙ ap (λ (p : Publishing). p.boxes) c.self.view_is)
