use Rattle.std.proofs.Common.{◌≡◌, ℕ, List, Some, ap, sym, subst, ◌∙◌}
use Rattle.std.proofs.lemmas.Result.{IfOk-weaker}
use Rattle.sha2.specs.Sha256.{sha256}
use Rattle.sb_model.specs.History.{History, version_count, prefixes_at}
use Rattle.sb_model.specs.Prefixes.{concatenation}
use Rattle.update_messages.specs.Answer.{update_to}
use Rattle.update_messages.specs.Messages.{AskedList, UpdatedList}
use Rattle.delta_server.specs.Served.{LeadsTo}
use Rattle.delta_server.specs.Tokens.{server_naming}
use Rattle.delta_server.proofs.items.newest_answer.Goals as goal

pub led_answer-requires-clause-delta : goal.led_answer-requires-clause-delta
led_answer-requires-clause-delta c =
    subst (λ (v : ℕ). LeadsTo c.args.history.now.versions c.args.asked.now.name c.args.held v c.args.delta) (sym c.len-newest.ensures.count) c.requires.delta

pub led_answer-requires-clause-digest : goal.led_answer-requires-clause-digest
led_answer-requires-clause-digest c =
    let versions : History = c.args.history.now.versions in
    c.requires.served.digest ∙ ap (λ (s : List (List ℕ)). sha256 (concatenation s)) c.requires.served.set
    ∙ ap (λ (v : ℕ). sha256 (concatenation (prefixes_at versions c.args.asked.now.name v))) (sym c.len-newest.ensures.count)

pub returns : goal.returns
returns c =
    let versions : History = c.args.history.now.versions in
    let asked : AskedList = c.args.asked.now in
    IfOk-weaker c.led_answer.result
    (λ (update : UpdatedList). update ≡ update_to versions (server_naming versions) asked (Some c.args.held) c.len-newest.result)
    (λ (update : UpdatedList). update ≡ update_to versions (server_naming versions) asked (Some c.args.held) (version_count versions))
    (λ update made. made ∙ ap (update_to versions (server_naming versions) asked (Some c.args.held)) c.len-newest.ensures.count)
    c.led_answer.ensures
