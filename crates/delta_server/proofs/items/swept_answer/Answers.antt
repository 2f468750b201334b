use Rattle.std.proofs.Common.{◌≡◌, ℕ, Some, ap, ◌∙◌}
use Rattle.std.proofs.lemmas.Result.{IfOk-weaker}
use Rattle.sb_model.specs.History.{History}
use Rattle.sb_model.specs.Target.{target_version}
use Rattle.update_messages.specs.Answer.{update_to}
use Rattle.update_messages.specs.Messages.{AskedList, UpdatedList}
use Rattle.delta_server.specs.Tokens.{server_naming}
use Rattle.delta_server.proofs.AnswerFacts.{target_same}
use Rattle.delta_server.proofs.items.swept_answer.Goals as goal

abbrev target : History → AskedList → ℕ → ℕ
target versions asked held = target_version versions asked.name (Some held) asked.max_update asked.max_database

abbrev Leads : History → AskedList → ℕ → ℕ → UpdatedList → Type 0
Leads versions asked held version update = update ≡ update_to versions (server_naming versions) asked (Some held) version

pub returns-clause-update : goal.returns-clause-update
returns-clause-update c =
    let versions : History = c.args.history.now.versions in
    let asked : AskedList = c.args.asked.now in
    let name : c.asked.inside.name ≡ asked.name = ap (λ (a : AskedList). a.name) c.asked.view_is in
    let is : c.in_ok-version.version ≡ target versions asked c.args.held =
    c.in_ok-version.ensures.target ∙ target_same versions (Some c.args.held) c.asked.inside.name asked.name _ _ _ _ name c.limits_of.ensures.update c.limits_of.ensures.database in
    IfOk-weaker c.older_answer.result (Leads versions asked c.args.held c.in_ok-version.version) (Leads versions asked c.args.held (target versions asked c.args.held))
    (λ update made. made ∙ ap (update_to versions (server_naming versions) asked (Some c.args.held)) is)
    c.older_answer.ensures
