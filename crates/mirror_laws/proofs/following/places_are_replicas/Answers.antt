use Rattle.mirror_laws.proofs.RoundFacts.{places_stay}
use Rattle.mirror_laws.proofs.following.places_are_replicas.Goals as goal

pub returns : goal.returns
returns c = places_stay c.replicas_stay.ensures
