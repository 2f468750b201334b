use Rattle.client_laws.specs.Faithful.{pair_of_hit}
use Rattle.client_laws.proofs.Answers.{kept_rules}
use Rattle.client_laws.proofs.Origins.{origin_of}
use Rattle.client_laws.proofs.verdicts.faithful_answers_rule_rightly.Goals as goal

pub returns-clause-kept : goal.returns-clause-kept
returns-clause-kept c steps now hashes pair hash begins rests =
    kept_rules steps now hashes pair hash (c.unsafe_hashes_were_told.ensures steps now pair hash)
    (c.safe_hashes_were_not_returned.ensures steps now pair hash begins) begins rests

pub returns-clause-kept_hits : goal.returns-clause-kept_hits
returns-clause-kept_hits c history token_at lists url steps now kept hit hashes member full =
    returns-clause-kept c steps now hashes (pair_of_hit hit) hit.hash (origin_of lists url hit member).begins (kept hit hashes member full)
