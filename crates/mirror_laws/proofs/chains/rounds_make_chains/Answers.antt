use Rattle.mirror_laws.proofs.ChainFacts.{first_mirrors, further_mirrors}
use Rattle.mirror_laws.proofs.chains.rounds_make_chains.Goals as goal

pub returns-clause-first : goal.returns-clause-first
returns-clause-first c = first_mirrors c.places_are_replicas.ensures

pub returns-clause-further : goal.returns-clause-further
returns-clause-further c = further_mirrors c.rounds_follow_mirrors.ensures
