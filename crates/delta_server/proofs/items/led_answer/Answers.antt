use Rattle.std.proofs.Common.{◌≡◌, ℕ, List, Some, refl, ap, ◌∙◌}
use Rattle.std.proofs.lemmas.Result.{IfOk-weaker}
use Rattle.sha2.specs.Sha256.{sha256}
use Rattle.sb_model.specs.Difference.{removed_places, added_members}
use Rattle.sb_model.specs.History.{History, prefixes_at}
use Rattle.sb_model.specs.Prefixes.{concatenation}
use Rattle.update_messages.specs.Answer.{update_to, difference_update}
use Rattle.update_messages.specs.Messages.{AskedList, UpdatedList}
use Rattle.delta_server.specs.Tokens.{server_token, server_naming}
use Rattle.delta_server.proofs.AnswerFacts.{partial_is, token_same}
use Rattle.delta_server.proofs.LeadFacts.{few_prefixes}
use Rattle.delta_server.proofs.items.led_answer.Goals as goal

pub delta_update-requires : goal.delta_update-requires
delta_update-requires c =
    let versions : History = c.args.history.now.versions in
    let asked : AskedList = c.args.asked.now in
    let old : List (List ℕ) = prefixes_at versions asked.name c.args.held in
    let newer : List (List ℕ) = prefixes_at versions asked.name c.args.version in
    c.differences_may_be_sent.ensures c.args.delta old newer c.requires.delta.removals c.requires.delta.additions
    (few_prefixes versions asked.name c.args.held c.len.ensures.within c.requires.within) (few_prefixes versions asked.name c.args.version c.len.ensures.within c.requires.version)

pub returns : goal.returns
returns c =
    let versions : History = c.args.history.now.versions in
    let asked : AskedList = c.args.asked.now in
    let old : List (List ℕ) = prefixes_at versions asked.name c.args.held in
    let newer : List (List ℕ) = prefixes_at versions asked.name c.args.version in
    let token : List ℕ = c.state_token-token.result in
    let name : c.asked.inside.name ≡ asked.name = ap (λ (a : AskedList). a.name) c.asked.view_is in
    let named : token ≡ server_token versions.epoch asked.name c.args.version =
    c.state_token-token.ensures ∙ token_same c.epoch.result versions.epoch c.asked.inside.name asked.name c.args.version c.epoch.ensures name in
    IfOk-weaker c.delta_update.result
    (λ (update : UpdatedList). (a b : List (List ℕ)) → c.args.delta.removals ≡ removed_places a b → c.args.delta.additions ≡ added_members a b
    → c.args.digest ≡ sha256 (concatenation b) → update ≡ difference_update asked c.args.served.now.size a b token)
    (λ (update : UpdatedList). update ≡ update_to versions (server_naming versions) asked (Some c.args.held) c.args.version)
    (λ update made. partial_is versions asked c.args.held c.args.served.now.size old newer token c.args.version c.args.version update
    (made old newer c.requires.delta.removals c.requires.delta.additions c.requires.digest) c.requires.served.size refl refl named refl)
    c.delta_update.ensures
