use Rattle.std.proofs.Common.{ℕ, List, length, ap, ◌∙◌, arith}
use Rattle.std.specs.List.{filter_map}
use Rattle.sb_model.specs.History.{History}
use Rattle.update_messages.specs.Messages.{Request, UpdatedList}
use Rattle.update_messages.specs.declared.response.FetchResponse.{FetchResponse}
use Rattle.delta_server.specs.Tokens.{server_naming}
use Rattle.named_answers.specs.Naming.{item_of_answering, name_if_answered}
use Rattle.named_answers.proofs.Items.{answered_by, few_given, one_each}
use Rattle.named_answers.proofs.fetching.answer_by_others.Goals as goal

pub invariant_of-others : goal.invariant_of-others
invariant_of-others c = record {
  few = omega (
    arith,
    few_given (item_of_answering c.args.history.now.versions) c.as_slice-2.result.now,
    ap length c.in_ok-items.ensures,
    ap length c.as_slice-2.ensures,
    c.request.invariant.few,
  );
}

pub under_names-requires : goal.under_names-requires
under_names-requires c =
    let versions : History = c.args.history.now.versions in
    one_each versions (server_naming versions) c.args.request.now.items c.in_ok-items.items c.as_slice-3.result.now c.in_ok-items-2.field-0.items
    (c.as_slice-3.ensures ∙ c.in_ok-names.ensures ∙ ap (filter_map (name_if_answered versions)) (c.as_slice.ensures ∙ ap (λ (r : Request). r.items) c.request.view_is))
    (c.in_ok-items.ensures ∙ ap (filter_map (item_of_answering versions)) (c.as_slice-2.ensures ∙ ap (λ (r : Request). r.items) c.request.view_is))
    (ap (λ (r : FetchResponse). r.items) c.in_ok-items-2.ensures.answer)

pub returns : goal.returns
returns c =
    let versions : History = c.args.history.now.versions in
    let made : List UpdatedList → ℕ → FetchResponse = λ items wait. record { items = items; wait = wait } in
    ap (λ (items : List UpdatedList). made items c.in_ok-items-2.field-0.wait)
    (answered_by versions (server_naming versions) c.args.request.now.items c.in_ok-items.items c.as_slice-3.result.now c.in_ok-items-2.field-0.items
    c.in_ok-under_names.field-0
    (c.as_slice-3.ensures ∙ c.in_ok-names.ensures ∙ ap (filter_map (name_if_answered versions)) (c.as_slice.ensures ∙ ap (λ (r : Request). r.items) c.request.view_is))
    (c.in_ok-items.ensures ∙ ap (filter_map (item_of_answering versions)) (c.as_slice-2.ensures ∙ ap (λ (r : Request). r.items) c.request.view_is))
    (ap (λ (r : FetchResponse). r.items) c.in_ok-items-2.ensures.answer) c.in_ok-under_names.ensures)
    ∙ ap (made _) (ap (λ (r : FetchResponse). r.wait) c.in_ok-items-2.ensures.answer)
