use Rattle.std.proofs.Common.{◌≡◌, ℕ, List, None, ap, refl, ◌∙◌}
use Rattle.std.specs.Prelude.{filter}
use Rattle.std.proofs.lemmas.Result.{IfOk-weaker}
use Rattle.sb_model.specs.declared.names.ListName.{ListName}
use Rattle.sb_model.specs.History.{History, prefixes_at, version_count}
use Rattle.update_messages.specs.Answer.{has_size, update_to, whole_update}
use Rattle.update_messages.specs.Messages.{AskedList, UpdatedList}
use Rattle.delta_server.specs.Tokens.{server_token, server_naming}
use Rattle.delta_server.proofs.AnswerFacts.{whole_is}
use Rattle.delta_server.proofs.items.newest_whole.Goals as goal

-- the answer is the whole update of the newest set
module _ (history : History) (asked : AskedList) (set : List (List ℕ)) (token : List ℕ) where
  abbrev Made : UpdatedList → Type 0
  Made update = update ≡ whole_update asked set token

  abbrev Wanted : UpdatedList → Type 0
  Wanted update = update ≡ update_to history (server_naming history) asked None (version_count history)

  wanted : set ≡ prefixes_at history asked.name (version_count history) → token ≡ server_token history.epoch asked.name (version_count history) → (update : UpdatedList) → Made update → Wanted update
  wanted sent named update made = whole_is history asked set token (version_count history) (version_count history) update made sent named refl

pub numbered_update-requires-clause-numbers : goal.numbered_update-requires-clause-numbers
numbered_update-requires-clause-numbers c =
    c.numbers_go_by_members.ensures (filter (has_size 4) c.args.served.now.set.now) c.args.served.now.numbers.now c.requires.numbers.rising c.requires.numbers.same

pub returns : goal.returns
returns c =
    let versions : History = c.args.history.now.versions in
    let asked : AskedList = c.args.asked.now in
    let name : c.asked.inside.name ≡ asked.name = ap (λ (a : AskedList). a.name) c.asked.view_is in
    let token : c.state_token-token.result ≡ server_token versions.epoch asked.name (version_count versions) =
    c.state_token-token.ensures ∙ ap (λ e. server_token e c.asked.inside.name c.len.result) c.epoch.ensures
    ∙ ap (λ (n : ListName). server_token versions.epoch n c.len.result) name ∙ ap (server_token versions.epoch asked.name) c.len.ensures.count in
    IfOk-weaker c.numbered_update.result (Made versions asked c.args.served.now.set.now c.state_token-token.result) (Wanted versions asked c.args.served.now.set.now c.state_token-token.result)
    (wanted versions asked c.args.served.now.set.now c.state_token-token.result c.requires.set token)
    c.numbered_update.ensures
