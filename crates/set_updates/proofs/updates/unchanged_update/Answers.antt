use Rattle.std.proofs.Common.{refl, ap, sym, List, ◌∙◌}
use Rattle.update_messages.specs.Answer.{addition_sets, removal_sets}
use Rattle.update_messages.specs.Messages.{AskedList}
use Rattle.set_updates.proofs.SameSets.{unchanged_adds, unchanged_removes}
use Rattle.set_updates.proofs.UpdateFacts.{same_update}
use Rattle.set_updates.proofs.updates.unchanged_update.Goals as goal

pub returns : goal.returns
returns c = λ size set digest.
    same_update _ _ (ap (λ (a : AskedList). a.name) c.asked.view_is) refl
    c.in_ok-base.ensures
    (c.new.ensures ∙ sym (ap (λ (ms : List _). addition_sets c.args.asked.now.rice ms) (unchanged_adds set)))
    (c.new-2.ensures ∙ sym (ap (λ (ps : List _). removal_sets c.args.asked.now.rice size ps) (unchanged_removes set)))
    (c.in_ok-from_slice.ensures ∙ c.as_slice.ensures) digest
