use Rattle.std.proofs.Common.{◌≡◌, ◌<◌, List, All, length, map, subst, arith}
use Rattle.std.proofs.lemmas.List.{length-map, take_all}
use Rattle.sb_model.specs.declared.history.Added.{Added}
use Rattle.sb_model.specs.declared.history.Change.{Change}
use Rattle.sb_model.specs.History.{History, version_count, prefix_of, sizes_at}
use Rattle.list_versions.specs.Limits.{WithinLimits}
use Rattle.update_client.specs.Genuine.{IsAnswerItem, IsWithinLimitsAlways}
use Rattle.update_messages.specs.Answer.{fetch_answer}
use Rattle.delta_server.specs.Tokens.{server_naming}
use Rattle.genuine_answers.proofs.Sets.{no_more}
use Rattle.genuine_answers.proofs.served_answers_are_genuine.Goals as goal

few_prefixes : (history : History) → WithinLimits history → IsWithinLimitsAlways history
few_prefixes history within = record {
  few = λ list version declared is.
      let some = no_more (map prefix_of (sizes_at history list version)) in
      let same : length (map prefix_of (sizes_at history list version)) ≡ length (sizes_at history list version) = length-map (sizes_at history list version) prefix_of in
      let most = (within list version is).count in
      omega (arith, some, same, most);
}

pub returns-clause-earlier : goal.returns-clause-earlier
returns-clause-earlier c count wait request is =
    let history = c.args.history.now.versions in
    c.answers_are_genuine.ensures history _ count wait request c.len.ensures.well_formed
    (c.tokens_name_versions.ensures history (omega (arith)) (omega (arith)))
    (few_prefixes history c.len.ensures.within) (subst (λ (changes : List Change). All (λ (change : Change). All (λ (added : Added). All (λ byte. byte < 256) added.hash) change.adds) changes) c.changes.ensures c.hashes_are_bytes.ensures) is

pub returns-clause-now : goal.returns-clause-now
returns-clause-now c wait request =
    let history = c.args.history.now.versions in
    subst (λ (changes : List Change). All (IsAnswerItem history (server_naming history)) (fetch_answer (record history { changes = changes }) (server_naming history) wait request).items)
    (take_all (version_count history) history.changes (omega (arith)))
    (returns-clause-earlier c (version_count history) wait request (omega (arith)))
