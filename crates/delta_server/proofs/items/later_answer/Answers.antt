use Rattle.std.proofs.Common.{◌≡◌, ℕ, List, Some, refl, sym, ap, ◌∙◌}
use Rattle.std.proofs.lemmas.Result.{IfOk-weaker}
use Rattle.sha2.specs.Sha256.{sha256}
use Rattle.sb_model.specs.declared.names.ListName.{ListName}
use Rattle.sb_model.specs.History.{History, prefixes_at}
use Rattle.sb_model.specs.Prefixes.{concatenation}
use Rattle.update_messages.specs.Answer.{update_to, difference_update}
use Rattle.update_messages.specs.Messages.{AskedList, UpdatedList}
use Rattle.delta_server.specs.Tokens.{server_token, server_naming}
use Rattle.delta_server.proofs.AnswerFacts.{partial_is, token_same}
use Rattle.delta_server.proofs.items.later_answer.Goals as goal

pub returns-then-version-held : goal.returns-then-version-held
returns-then-version-held c =
    let versions : History = c.args.history.now.versions in
    let asked : AskedList = c.args.asked.now in
    let set : List (List ℕ) = c.in_ok-before.before in
    let token : List ℕ = c.state_token-token.result in
    let name : c.asked.inside.name ≡ asked.name = ap (λ (a : AskedList). a.name) c.asked.view_is in
    let own : set ≡ prefixes_at versions asked.name c.args.held = c.in_ok-before.ensures ∙ ap (λ (n : ListName). prefixes_at versions n c.args.held) name in
    let named : token ≡ server_token versions.epoch asked.name c.args.version =
    c.state_token-token.ensures ∙ token_same c.epoch.result versions.epoch c.asked.inside.name asked.name c.args.version c.epoch.ensures name in
    IfOk-weaker c.unchanged_update.result
    (λ (update : UpdatedList). (n : ℕ) (s : List (List ℕ)) → c.digest.result ≡ sha256 (concatenation s) → update ≡ difference_update asked n s s token)
    (λ (update : UpdatedList). update ≡ update_to versions (server_naming versions) asked (Some c.args.held) c.args.version)
    (λ update made. partial_is versions asked c.args.held c.args.served.now.size set set token c.args.version c.args.version update
    (made c.args.served.now.size set c.digest.ensures) c.requires.served.size own (own ∙ ap (prefixes_at versions asked.name) (sym c.if-version-held.true)) named refl)
    c.unchanged_update.ensures

pub returns : goal.returns
returns c =
    let versions : History = c.args.history.now.versions in
    let asked : AskedList = c.args.asked.now in
    let old : List (List ℕ) = c.in_ok-before.before in
    let newer : List (List ℕ) = c.in_ok-set.field-0 in
    let token : List ℕ = c.state_token-token.result in
    let name : c.asked.inside.name ≡ asked.name = ap (λ (a : AskedList). a.name) c.asked.view_is in
    let own : old ≡ prefixes_at versions asked.name c.args.held = c.in_ok-before.ensures ∙ ap (λ (n : ListName). prefixes_at versions n c.args.held) name in
    let sent : newer ≡ prefixes_at versions asked.name c.args.version = c.in_ok-set.ensures ∙ ap (λ (n : ListName). prefixes_at versions n c.args.version) name in
    let named : token ≡ server_token versions.epoch asked.name c.args.version =
    c.state_token-token.ensures ∙ token_same c.epoch.result versions.epoch c.asked.inside.name asked.name c.args.version c.epoch.ensures name in
    IfOk-weaker c.partial_update.result
    (λ (update : UpdatedList). update ≡ difference_update asked c.args.served.now.size old newer token)
    (λ (update : UpdatedList). update ≡ update_to versions (server_naming versions) asked (Some c.args.held) c.args.version)
    (λ update made. partial_is versions asked c.args.held c.args.served.now.size old newer token c.args.version c.args.version update
    made c.requires.served.size own sent named refl)
    c.partial_update.ensures
