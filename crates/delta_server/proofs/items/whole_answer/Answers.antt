use Rattle.std.proofs.Common.{◌≡◌, ℕ, List, None, IfOk, ap, arith, sym, subst, ◌∙◌}
use Rattle.std.proofs.lemmas.Result.{IfOk-weaker}
use Rattle.sb_model.specs.declared.names.ListName.{ListName}
use Rattle.sb_model.specs.History.{History, prefixes_at, version_count}
use Rattle.sb_model.specs.Target.{target_version}
use Rattle.update_messages.specs.Answer.{update_to, whole_update}
use Rattle.update_messages.specs.Messages.{AskedList, UpdatedList}
use Rattle.delta_server.specs.Tokens.{server_token, server_naming}
use Rattle.delta_server.proofs.AnswerFacts.{whole_is, target_same, token_same}
use Rattle.delta_server.proofs.items.whole_answer.Goals as goal

abbrev target_for : History → AskedList → ℕ
target_for history asked = target_version history asked.name None asked.max_update asked.max_database

-- the answer is the whole update of a set
module _ (history : History) (asked : AskedList) (set : List (List ℕ)) (token : List ℕ) (version : ℕ) where
  abbrev Made : UpdatedList → Type 0
  Made update = update ≡ whole_update asked set token

  abbrev Wanted : UpdatedList → Type 0
  Wanted update = update ≡ update_to history (server_naming history) asked None (target_for history asked)

  wanted : set ≡ prefixes_at history asked.name version → token ≡ server_token history.epoch asked.name version → version ≡ target_for history asked
      → (update : UpdatedList) → Made update → Wanted update
  wanted sent named is update made = whole_is history asked set token version (target_for history asked) update made sent named is

pub returns-clause-update : goal.returns-clause-update
returns-clause-update c =
    let versions : History = c.args.history.now.versions in
    let asked : AskedList = c.args.asked.now in
    let name : c.asked.inside.name ≡ asked.name = ap (λ (a : AskedList). a.name) c.asked.view_is in
    let set : List (List ℕ) = c.in_ok-set.field-0 in
    let token : List ℕ = c.state_token-token.result in
    IfOk-weaker c.full_update.result (Made versions asked set token c.in_ok-version.version) (Wanted versions asked set token c.in_ok-version.version)
    (wanted versions asked set token c.in_ok-version.version
    (c.in_ok-set.ensures ∙ ap (λ (n : ListName). prefixes_at versions n c.in_ok-version.version) name)
    (c.state_token-token.ensures ∙ token_same c.epoch.result versions.epoch c.asked.inside.name asked.name c.in_ok-version.version c.epoch.ensures name)
    (c.in_ok-version.ensures.target ∙ target_same versions None c.asked.inside.name asked.name _ _ _ _ name c.limits_of.ensures.update c.limits_of.ensures.database))
    c.full_update.ensures

pub returns-then-version-len-clause-update : goal.returns-then-version-len-clause-update
returns-then-version-len-clause-update c =
    let versions : History = c.args.history.now.versions in
    let asked : AskedList = c.args.asked.now in
    let name : c.asked.inside.name ≡ asked.name = ap (λ (a : AskedList). a.name) c.asked.view_is in
    let newest : c.in_ok-version.version ≡ version_count versions = omega (arith, c.if-version-len.true, c.len.ensures.count) in
    let last : version_count versions ≡ target_for versions asked =
    sym newest ∙ c.in_ok-version.ensures.target ∙ target_same versions None c.asked.inside.name asked.name _ _ _ _ name c.limits_of.ensures.update c.limits_of.ensures.database in
    subst (λ v. IfOk c.newest_whole.result (λ update. update ≡ update_to versions (server_naming versions) asked None v)) last c.newest_whole.ensures
