use Rattle.std.proofs.Common.{Bool, refl, ap, ◌∙◌}
use Rattle.update_messages.specs.Answer.{addition_sets}
use Rattle.update_messages.specs.Messages.{AskedList}
use Rattle.set_updates.proofs.UpdateFacts.{same_update}
use Rattle.set_updates.proofs.updates.whole_of.Goals as goal

pub returns : goal.returns
returns c =
    let rice = ap (λ (a : AskedList). a.rice) c.asked.view_is in
    let sets = c.in_ok-whole_sets.ensures.sets ∙ ap (λ (b : Bool). addition_sets b c.args.newer.now.set.now) rice in
    same_update _ _ (ap (λ (a : AskedList). a.name) c.asked.view_is) refl c.new.ensures sets c.new-2.ensures (c.in_ok-from_slice.ensures ∙ c.as_slice.ensures) c.requires.digest
