use Rattle.std.proofs.Common.{sym, ◌∙◌}
use Rattle.sb_model.specs.History.{History}
use Rattle.named_answers.specs.Naming.{item_of_answering}
use Rattle.named_answers.proofs.Items.{nothing_more, one_more}
use Rattle.named_answers.proofs.asking.items_of_answering.Goals as goal

pub loop-asked-preserved-in_default : goal.loop-asked-preserved-in_default
loop-asked-preserved-in_default c =
    let versions : History = c.args.history.now.versions in
    c.loop-asked.invariant
    ∙ nothing_more (item_of_answering versions) c.args.items.now c.loop-asked.asked-index c.asked-item.result c.loop-asked-test.true c.asked-item.is
    (sym c.in_ok-item.ensures ∙ c.in_default.is)

pub loop-asked-preserved : goal.loop-asked-preserved
loop-asked-preserved c =
    let versions : History = c.args.history.now.versions in
    one_more (item_of_answering versions) c.args.items.now c.loop-asked.asked-index c.asked-item.result c.loop-asked-test.true c.asked-item.is
    c.in-Some.item c.loop-asked.found c.push.new.self (sym c.in_ok-item.ensures ∙ c.in-Some.is) c.loop-asked.invariant c.in_ok-push.ensures.ok
