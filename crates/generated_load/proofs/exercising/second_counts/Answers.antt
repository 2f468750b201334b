use Rattle.std.proofs.Common.{ℕ, List, ap, ◌∙◌, sum_by}
use Rattle.generated_load.specs.Exercise.{added_count, additions_in, removals_in, removed_count, update_with}
use Rattle.delta_server.specs.Tokens.{server_naming}
use Rattle.generated_load.specs.Generated.{generated_list}
use Rattle.generated_load.proofs.Asked.{item_is}
use Rattle.generated_load.proofs.exercising.second_counts.Goals as goal

pub returns-clause-removals : goal.returns-clause-removals
returns-clause-removals c =
    let history = c.args.history.now.versions in
    let update = item_is history c.token_of-token.result c.in_ok-response.response c.at-update.result.now c.requires c.in_ok-response.ensures c.at-update.ensures in
    c.in_ok-removals_in.ensures ∙ ap (sum_by removed_count) c.as_slice.ensures ∙ ap removals_in c.update.view_is ∙ ap removals_in update
    ∙ ap (λ (token : List ℕ). removals_in (update_with history token)) c.token_of-token.ensures
    ∙ ap (λ (version : ℕ). removals_in (update_with history (server_naming history generated_list version))) c.from.ensures

pub returns-clause-additions : goal.returns-clause-additions
returns-clause-additions c =
    let history = c.args.history.now.versions in
    let update = item_is history c.token_of-token.result c.in_ok-response.response c.at-update.result.now c.requires c.in_ok-response.ensures c.at-update.ensures in
    c.in_ok-additions_in.ensures ∙ ap (sum_by added_count) c.as_slice-2.ensures ∙ ap additions_in c.update.view_is ∙ ap additions_in update
    ∙ ap (λ (token : List ℕ). additions_in (update_with history token)) c.token_of-token.ensures
    ∙ ap (λ (version : ℕ). additions_in (update_with history (server_naming history generated_list version))) c.from.ensures
