use Rattle.std.proofs.Common.{ℕ, Bool, List, refl, ap, ◌∙◌}
use Rattle.update_messages.specs.Answer.{addition_sets, removal_sets}
use Rattle.update_messages.specs.Messages.{AskedList}
use Rattle.set_updates.proofs.UpdateFacts.{same_update}
use Rattle.set_updates.proofs.updates.delta_update.Goals as goal

pub returns : goal.returns
returns c = λ old newer removals additions digest.
    let rice = ap (λ (a : AskedList). a.rice) c.asked.view_is in
    let members = c.as_slice.ensures ∙ additions in
    let sets = c.in_ok-addition_sets.ensures.sets ∙ ap (λ (b : Bool). addition_sets b c.as_slice.result.now) rice ∙ ap (λ (ms : List _). addition_sets c.args.asked.now.rice ms) members in
    let gone = c.in_ok-removal_sets.ensures.sets ∙ ap (λ (b : Bool). removal_sets b c.args.size c.args.delta.removals) rice
    ∙ ap (λ (ns : List ℕ). removal_sets c.args.asked.now.rice c.args.size ns) removals in
    same_update _ _ (ap (λ (a : AskedList). a.name) c.asked.view_is) refl c.in_ok-base.ensures sets gone
    (c.in_ok-from_slice.ensures ∙ c.as_slice-2.ensures) digest
