use Rattle.url_checker.specs.Resolving.{answer_in}
use Rattle.client_laws.proofs.verdicts.resolved_verdicts_are_lookups.Goals as goal

pub returns-clause-open : goal.returns-clause-open
returns-clause-open c steps waits hits r = c.shared_verdicts_are_lookups.ensures.open steps r.now (answer_in waits r.talk) hits

pub returns-clause-resolved : goal.returns-clause-resolved
returns-clause-resolved c history token_at lists url steps waits r well are decided none =
    c.shared_verdicts_are_lookups.ensures.resolved history token_at lists url steps r.now (answer_in waits r.talk) well are
    (record { kept = decided.kept; got = decided.got }) none

pub returns-clause-borne_out : goal.returns-clause-borne_out
returns-clause-borne_out c history token_at lists url steps waits r well are decided =
    c.shared_verdicts_are_lookups.ensures.borne_out history token_at lists url steps r.now (answer_in waits r.talk) well are
    (record { kept = decided.kept; got = decided.got })
