use Rattle.std.proofs.Common.{◌≡◌, ℕ, List, Option, Some, sym, ap, subst, ◌∙◌}
use Rattle.std.specs.Prelude.{IfSome}
use Rattle.prefix_set.specs.declared.difference.Delta.{Delta}
use Rattle.std.proofs.lemmas.Result.{IfOk-weaker}
use Rattle.sha2.specs.Sha256.{sha256}
use Rattle.sb_model.specs.History.{History, version_count, prefixes_at}
use Rattle.sb_model.specs.Prefixes.{concatenation}
use Rattle.sb_model.specs.Target.{target_version}
use Rattle.update_messages.specs.Answer.{update_to, difference_update}
use Rattle.update_messages.specs.Messages.{AskedList, UpdatedList}
use Rattle.delta_server.specs.Tokens.{server_naming}
use Rattle.delta_server.proofs.AnswerFacts.{partial_is, token_same, target_same}
use Rattle.delta_server.proofs.TargetFacts.{stays_newest}
use Rattle.delta_server.proofs.items.partial_answer.Goals as goal

abbrev target : History → AskedList → ℕ → ℕ
target versions asked held = target_version versions asked.name (Some held) asked.max_update asked.max_database

pub returns-then-held-len-clause-update : goal.returns-then-held-len-clause-update
returns-then-held-len-clause-update c =
    let versions : History = c.args.history.now.versions in
    let asked : AskedList = c.args.asked.now in
    let set : List (List ℕ) = c.args.served.now.set.now in
    let held : ℕ = c.args.held in
    let token : List ℕ = c.state_token-token.result in
    let name : c.asked.inside.name ≡ asked.name = ap (λ (a : AskedList). a.name) c.asked.view_is in
    let own : set ≡ prefixes_at versions asked.name held = c.requires.served.set ∙ ap (prefixes_at versions asked.name) (sym (c.if-held-len.true ∙ c.len.ensures.count)) in
    IfOk-weaker c.unchanged_update.result
    (λ (update : UpdatedList). (n : ℕ) (s : List (List ℕ)) → c.args.served.now.digest ≡ sha256 (concatenation s) → update ≡ difference_update asked n s s token)
    (λ (update : UpdatedList). update ≡ update_to versions (server_naming versions) asked (Some held) (target versions asked held))
    (λ update made. partial_is versions asked held c.args.served.now.size set set token held (target versions asked held) update
    (made c.args.served.now.size set c.requires.served.digest) c.requires.served.size own own
    (c.state_token-token.ensures ∙ token_same c.epoch.result versions.epoch c.asked.inside.name asked.name held c.epoch.ensures name)
    (sym (stays_newest versions asked.name held asked.max_update asked.max_database (sym (c.if-held-len.true ∙ c.len.ensures.count)))))
    c.unchanged_update.ensures

pub returns-in-Some-clause-update : goal.returns-in-Some-clause-update
returns-in-Some-clause-update c =
    let versions : History = c.args.history.now.versions in
    let asked : AskedList = c.args.asked.now in
    let name : c.asked.inside.name ≡ asked.name = ap (λ (a : AskedList). a.name) c.asked.view_is in
    let told : target_version versions c.asked.inside.name (Some c.args.held) c.limits_of.result.update c.limits_of.result.database ≡ version_count versions =
    subst (λ (found : Option Delta). IfSome found (λ _. target_version versions c.asked.inside.name (Some c.args.held) c.limits_of.result.update c.limits_of.result.database ≡ version_count versions))
    c.in-Some.is c.in_ok-delta.ensures.target in
    let is : version_count versions ≡ target versions asked c.args.held =
    sym told ∙ target_same versions (Some c.args.held) c.asked.inside.name asked.name _ _ _ _ name c.limits_of.ensures.update c.limits_of.ensures.database in
    IfOk-weaker c.newest_answer.result (λ (update : UpdatedList). update ≡ update_to versions (server_naming versions) asked (Some c.args.held) (version_count versions))
    (λ (update : UpdatedList). update ≡ update_to versions (server_naming versions) asked (Some c.args.held) (target versions asked c.args.held))
    (λ update made. made ∙ ap (update_to versions (server_naming versions) asked (Some c.args.held)) is)
    c.newest_answer.ensures
