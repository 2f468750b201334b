use Rattle.std.proofs.Common.{◌≡◌, IfOk, false, ap, ◌∙◌, subst, sym}
use Rattle.std.specs.List.{list_any}
use Rattle.sb_model.specs.History.{History}
use Rattle.answering_lists.specs.Lists.{is_answered_for_any}
use Rattle.update_messages.specs.Messages.{AskedList, Request}
use Rattle.update_messages.specs.declared.response.FetchResponse.{FetchResponse}
use Rattle.delta_server.specs.Tokens.{server_naming}
use Rattle.named_answers.proofs.Items.{answer_as_before}
use Rattle.named_answers.proofs.fetching.answer_named_fetch.Goals as goal

pub returns-else-some_ask_for_another : goal.returns-else-some_ask_for_another
returns-else-some_ask_for_another c =
    let versions : History = c.args.history.now.versions in
    let none : list_any (λ (asked : AskedList). is_answered_for_any versions asked.name) c.args.request.now.items ≡ false =
    sym (ap (list_any (λ (asked : AskedList). is_answered_for_any versions asked.name)) (c.as_slice.ensures ∙ ap (λ (r : Request). r.items) c.request.view_is))
    ∙ sym c.some_ask_for_another.ensures ∙ c.if-some_ask_for_another.false in
    record {
      answer = subst (λ (a : FetchResponse). IfOk c.answer_fetch.result (λ response. response ≡ a))
          (sym (answer_as_before versions (server_naming versions) c.args.settings.now.wait c.args.request.now none)) c.answer_fetch.ensures.answer;
    }
