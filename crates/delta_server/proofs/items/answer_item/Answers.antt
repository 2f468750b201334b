use Rattle.std.proofs.Common.{◌≡◌, ℕ, Option, Some, None, sym, ◌∙◌}
use Rattle.std.proofs.lemmas.Result.{IfOk-weaker}
use Rattle.sb_model.specs.History.{History}
use Rattle.sb_model.specs.Target.{target_version}
use Rattle.update_messages.specs.Answer.{update_to, update_for}
use Rattle.update_messages.specs.Messages.{AskedList, UpdatedList}
use Rattle.delta_server.specs.Tokens.{server_naming}
use Rattle.delta_server.proofs.AnswerFacts.{for_is}
use Rattle.delta_server.proofs.items.answer_item.Goals as goal

-- the answer is made for a version that is held, or for none
abbrev Made : History → AskedList → Option ℕ → UpdatedList → Type 0
Made history asked held update =
    update ≡ update_to history (server_naming history) asked held (target_version history asked.name held asked.max_update asked.max_database)

abbrev Wanted : History → AskedList → UpdatedList → Type 0
Wanted history asked update = update ≡ update_for history (server_naming history) asked

pub returns-in-None-clause-update : goal.returns-in-None-clause-update
returns-in-None-clause-update c =
    IfOk-weaker c.whole_answer.result (Made c.args.history.now.versions c.args.asked.now None) (Wanted c.args.history.now.versions c.args.asked.now)
    (λ update made. for_is c.args.history.now.versions c.args.asked.now None update (sym c.in-None.is ∙ c.asked_version.ensures.named) made) c.whole_answer.ensures.update

pub returns-in-Some-asked_version-clause-update : goal.returns-in-Some-asked_version-clause-update
returns-in-Some-asked_version-clause-update c =
    IfOk-weaker c.partial_answer.result (Made c.args.history.now.versions c.args.asked.now (Some c.in-Some-asked_version.held))
    (Wanted c.args.history.now.versions c.args.asked.now)
    (λ update made. for_is c.args.history.now.versions c.args.asked.now (Some c.in-Some-asked_version.held) update
    (sym c.in-Some-asked_version.is ∙ c.asked_version.ensures.named) made) c.partial_answer.ensures.update
