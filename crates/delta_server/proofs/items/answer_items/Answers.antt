use Rattle.std.proofs.Common.{sym, ap, ◌∙◌}
use Rattle.update_messages.specs.Answer.{update_for}
use Rattle.update_messages.specs.Messages.{AskedList}
use Rattle.sb_model.specs.History.{History, declares}
use Rattle.delta_server.specs.Tokens.{server_naming}
use Rattle.delta_server.proofs.AnswerFacts.{answered_more}
use Rattle.delta_server.proofs.items.answer_items.Goals as goal

pub loop-i-preserved : goal.loop-i-preserved
loop-i-preserved c =
    let versions : History = c.args.history.now.versions in
    record {
      swept = c.in_ok-update.ensures.swept;
      updates =
          answered_more (λ (asked : AskedList). declares versions asked.name) c.args.items.now c.loop-i.i c.index-items-i.result c.loop-i-test.true c.index-items-i.is
          (update_for versions (server_naming versions)) c.loop-i.updates c.push.new.self
          c.in_ok-update.update (ap (λ (asked : AskedList). declares versions asked.name) (sym c.asked.view_is) ∙ sym c.is_declared.ensures ∙ c.if-not-is_declared.false)
          c.loop-i.invariant.updates c.in_ok-update.ensures.update c.in_ok-push.ensures.ok;
    }
