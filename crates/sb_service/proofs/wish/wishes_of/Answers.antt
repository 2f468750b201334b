use Rattle.std.proofs.Common.{◌≡◌, Some, sym, ap, ◌∙◌}
use Rattle.sb_model.specs.History.{History}
use Rattle.answering_lists.specs.Lists.{answering}
use Rattle.update_messages.specs.Messages.{AskedList}
use Rattle.sb_service.proofs.Wishes.{unwished}
use Rattle.sb_service.proofs.wish.wishes_of.Goals as goal

pub returns-in-None-clause-none : goal.returns-in-None-clause-none
returns-in-None-clause-none c =
    let versions : History = c.args.history.now.versions in
    let known : answering versions c.asked-item.result.name ≡ Some c.in-Some.list =
    ap (λ (asked : AskedList). answering versions asked.name) (sym c.asked.view_is) ∙ sym c.answering_list.ensures ∙ c.in-Some.is in
    unwished versions c.args.items.now c.loop-asked.asked-index c.asked-item.result c.in-Some.list c.loop-asked-test.true c.asked-item.is known
    (sym c.wish_of_list.ensures ∙ c.in-None.is)
