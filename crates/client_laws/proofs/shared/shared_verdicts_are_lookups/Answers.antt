use Rattle.std.proofs.Common.{List, [], map, filter, ap, Result}
use Rattle.sb_model.specs.declared.names.ListName.{ListName}
use Rattle.sb_model.specs.History.{History}
use Rattle.sb_model.specs.Naming.{Naming}
use Rattle.full_hash_cache.specs.Law.{Step, after_steps}
use Rattle.url_canon.specs.Url.{Url}
use Rattle.update_client.specs.Held.{Held}
use Rattle.hash_messages.specs.declared.response.FindResponse.{FindResponse}
use Rattle.sb_model.specs.declared.time.Moment.{Moment}
use Rattle.verdict_report.specs.declared.verdicts.Cause.{Cause}
use Rattle.url_checker.specs.declared.findings.Hit.{Hit}
use Rattle.url_checker.specs.Hits.{hits_of}
use Rattle.url_checker.specs.Resolving.{said_of, is_ask, is_unsafe_by, message_in, hits_asked, unsafe_lists, open_cause}
use Rattle.client_laws.specs.Rulings.{AreRight}
use Rattle.client_laws.specs.Faithful.{said_after}
use Rattle.client_laws.specs.Shared.{IsDecidedBy, said_by_answer}
use Rattle.client_laws.proofs.Members.{in_filter}
use Rattle.client_laws.proofs.NameOrder.{in_order_rises}
use Rattle.client_laws.proofs.Origins.{origin_of}
use Rattle.client_laws.proofs.Resolved.{ruling_is_right, named_are_called, called_are_named, none_open_no_cause, no_cause_none_open}
use Rattle.client_laws.proofs.VerdictFrom.{is_lookup, is_borne_out}
use Rattle.client_laws.proofs.shared.shared_verdicts_are_lookups.Goals as goal

pub returns-clause-open : goal.returns-clause-open
returns-clause-open c steps now answer hits = (
  none_open_no_cause (after_steps [] steps) now answer hits,
  no_cause_none_open (after_steps [] steps) now answer hits,
)

module _ (history : History) (token_at : Naming) (lists : List Held) (url : Url) (steps : List Step) (now : Moment) (answer : Result FindResponse Cause) where
  abbrev Hits : List Hit
  Hits = hits_of lists url

  abbrev Names : List ListName
  Names = unsafe_lists (after_steps [] steps) now (message_in answer) Hits

  rightly : AreRight history token_at lists Hits (said_after steps now) → IsDecidedBy history token_at lists steps now answer Hits
      → AreRight history token_at lists Hits (said_by_answer steps now answer)
  rightly kept decided hit hashes member full =
      ruling_is_right answer hit hashes (said_of (after_steps [] steps) now hit) (kept hit hashes member full)
      (λ message is ask. decided.got message hit hashes is (in_filter (λ (one : Hit). is_ask (said_of (after_steps [] steps) now one)) Hits hit member (ap is_ask ask)) full)
      (origin_of lists url hit member).begins

pub returns-clause-resolved : goal.returns-clause-resolved
returns-clause-resolved c history token_at lists url steps now answer well are decided none =
    let pairs = after_steps [] steps in
    let hits = hits_of lists url in
    let kept = c.faithful_answers_rule_rightly.ensures.kept_hits history token_at lists url steps now decided.kept in
    let right = rightly history token_at lists url steps now answer kept decided in
    let named = named_are_called pairs now (message_in answer) hits in
    let called = called_are_named pairs now (message_in answer) hits c.names_go_by_their_codes.ensures.same in
    is_lookup history token_at lists url (Names history token_at lists url steps now answer) (open_cause answer (hits_asked pairs now hits))
    (none_open_no_cause pairs now answer hits none) (in_order_rises (map (λ (hit : Hit). hit.list) (filter (λ hit. is_unsafe_by (message_in answer) (said_of pairs now hit) hit) hits)))
    (λ name.
    let same = c.right_rulings_are_lookups.ensures.all history token_at lists url (said_by_answer steps now answer) well are right none name in
    (λ is. same.1 (named name is), λ listed. called name (same.0 listed)))

pub returns-clause-borne_out : goal.returns-clause-borne_out
returns-clause-borne_out c history token_at lists url steps now answer well are decided =
    let pairs = after_steps [] steps in
    let hits = hits_of lists url in
    let said = said_by_answer steps now answer in
    let kept = c.faithful_answers_rule_rightly.ensures.kept_hits history token_at lists url steps now decided.kept in
    let right = rightly history token_at lists url steps now answer kept decided in
    let called = called_are_named pairs now (message_in answer) hits c.names_go_by_their_codes.ensures.same in
    is_borne_out history token_at lists url (Names history token_at lists url steps now answer) (open_cause answer (hits_asked pairs now hits))
    (λ name is. c.right_rulings_are_lookups.ensures.some history token_at lists url said are right name (named_are_called pairs now (message_in answer) hits name is))
    (λ none name listed.
    let closed = no_cause_none_open pairs now answer hits none in
    called name ((c.right_rulings_are_lookups.ensures.all history token_at lists url said well are right closed name).0 listed))
