use Rattle.std.proofs.Common.{◌≡◌, ◌<◌, [], ◌∷◌, ◌++◌, length, sym, ◌∙◌, ap, append-nil, arith}
use Rattle.std.proofs.lemmas.List.{nil_from_length}
use Rattle.update_client.specs.Applying.{all_changed}
use Rattle.update_client.proofs.Places.{changed_last, changed_none}
use Rattle.update_client.proofs.change.put_changes.Goals as goal

pub loop-change-preserved : goal.loop-change-preserved
loop-change-preserved c =
    let so_far = c.loop-change.invariant in
    let split : c.loop-change.changes.items ≡ c.pop.new.self.items ++ c.in-Some.change ∷ [] = c.in-Some.ensures.items in
    let last : c.len.result ≡ length c.pop.new.self.items = omega (arith, c.len.ensures) in
    let there : length c.pop.new.self.items < length c.loop-change.lists.items = omega (arith, c.in-Some.ensures.cases) in
    record {
      left =
          changed_last c.loop-change.lists.items c.pop.new.self.items c.len.result c.in-Some.change c.index_mut.result.now c.put.new.held last there c.index_mut.ensures.value c.put.ensures
          ∙ sym (ap (all_changed c.loop-change.lists.items) split)
          ∙ so_far.left;
      within = omega (arith, c.in-Some.ensures.cases);
    }

pub returns : goal.returns
returns c =
    let none : c.pop.new.self.items ≡ [] = nil_from_length c.pop.new.self.items (omega (arith, c.in_default.ensures.cases)) in
    let emptied : c.loop-change.changes.items ≡ [] = c.in_default.ensures.items ∙ append-nil c.pop.new.self.items ∙ none in
    sym (changed_none c.loop-change.lists.items c.loop-change.changes.items emptied) ∙ c.loop-change.invariant.left
