use Rattle.std.proofs.Common.{◌≡◌, Option, Some, sym, ap, subst, ◌∙◌}
use Rattle.std.proofs.lemmas.Result.{IfOk-weaker}
use Rattle.std.specs.Prelude.{IfSome}
use Rattle.sha2.specs.Sha256.{sha256}
use Rattle.sb_model.specs.declared.names.ListName.{ListName}
use Rattle.sb_model.specs.History.{History, version_count, prefixes_at}
use Rattle.sb_model.specs.Prefixes.{concatenation}
use Rattle.update_messages.specs.Answer.{update_to}
use Rattle.update_messages.specs.Messages.{AskedList, UpdatedList}
use Rattle.delta_server.specs.Tokens.{server_naming}
use Rattle.delta_server.specs.declared.passages.Lead.{Lead}
use Rattle.delta_server.specs.Served.{LeadsTo}
use Rattle.delta_server.proofs.items.older_answer.Goals as goal

pub newest_answer-requires-clause-delta : goal.newest_answer-requires-clause-delta
newest_answer-requires-clause-delta c =
    let versions : History = c.args.history.now.versions in
    let name : c.asked.inside.name ≡ c.args.asked.now.name = ap (λ (a : AskedList). a.name) c.asked.view_is in
    subst (λ (n : ListName). LeadsTo versions n c.args.held (version_count versions) c.in_ok-delta.delta) name c.in_ok-delta.ensures

pub returns-then-version-len : goal.returns-then-version-len
returns-then-version-len c =
    let versions : History = c.args.history.now.versions in
    let asked : AskedList = c.args.asked.now in
    IfOk-weaker c.newest_answer.result
    (λ (update : UpdatedList). update ≡ update_to versions (server_naming versions) asked (Some c.args.held) (version_count versions))
    (λ (update : UpdatedList). update ≡ update_to versions (server_naming versions) asked (Some c.args.held) c.args.version)
    (λ update made. made ∙ ap (update_to versions (server_naming versions) asked (Some c.args.held)) (sym c.len.ensures.count ∙ sym c.if-version-len.true))
    c.newest_answer.ensures

pub led_answer-requires-clause-delta : goal.led_answer-requires-clause-delta
led_answer-requires-clause-delta c =
    let versions : History = c.args.history.now.versions in
    let name : c.asked.inside.name ≡ c.args.asked.now.name = ap (λ (a : AskedList). a.name) c.asked.view_is in
    subst (λ (n : ListName). LeadsTo versions n c.args.held c.args.version c.in-Some.lead.delta) name
    (subst (λ (found : Option Lead). IfSome found (λ lead. LeadsTo versions c.asked.inside.name c.args.held c.args.version lead.delta)) c.in-Some.is c.in_ok-found.ensures.leads)

pub led_answer-requires-clause-digest : goal.led_answer-requires-clause-digest
led_answer-requires-clause-digest c =
    let versions : History = c.args.history.now.versions in
    let name : c.asked.inside.name ≡ c.args.asked.now.name = ap (λ (a : AskedList). a.name) c.asked.view_is in
    subst (λ (found : Option Lead). IfSome found (λ lead. lead.digest ≡ sha256 (concatenation (prefixes_at versions c.asked.inside.name c.args.version)))) c.in-Some.is c.in_ok-found.ensures.digest
    ∙ ap (λ (n : ListName). sha256 (concatenation (prefixes_at versions n c.args.version))) name
