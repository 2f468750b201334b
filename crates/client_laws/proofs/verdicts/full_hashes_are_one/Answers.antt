use Rattle.client_laws.proofs.Lookups.{some_full, one_full}
use Rattle.client_laws.proofs.verdicts.full_hashes_are_one.Goals as goal

pub returns-clause-some : goal.returns-clause-some
returns-clause-some c = some_full

pub returns-clause-one : goal.returns-clause-one
returns-clause-one c = one_full
