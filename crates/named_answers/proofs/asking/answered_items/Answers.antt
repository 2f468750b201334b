use Rattle.std.proofs.Common.{◌≡◌, ◌∙◌, Some, None}
use Rattle.sb_model.specs.History.{History}
use Rattle.named_answers.specs.Naming.{name_if_answered}
use Rattle.named_answers.proofs.Items.{nothing_more, one_more}
use Rattle.named_answers.proofs.asking.answered_items.Goals as goal

pub loop-asked-preserved-in_default : goal.loop-asked-preserved-in_default
loop-asked-preserved-in_default c =
    let versions : History = c.args.history.now.versions in
    let none : name_if_answered versions c.asked-item.result ≡ None = cc (c.name_if_answered.ensures) in
    c.loop-asked.invariant
    ∙ nothing_more (name_if_answered versions) c.args.items.now c.loop-asked.asked-index c.asked-item.result c.loop-asked-test.true c.asked-item.is none

pub loop-asked-preserved : goal.loop-asked-preserved
loop-asked-preserved c =
    let versions : History = c.args.history.now.versions in
    let some : name_if_answered versions c.asked-item.result ≡ Some c.in-Some.name = cc (c.name_if_answered.ensures) in
    one_more (name_if_answered versions) c.args.items.now c.loop-asked.asked-index c.asked-item.result c.loop-asked-test.true c.asked-item.is
    c.in-Some.name c.loop-asked.names c.push.new.self some c.loop-asked.invariant c.in_ok-push.ensures.ok
