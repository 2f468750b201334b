use Rattle.mirror_places.proofs.FollowFacts.{followed}
use Rattle.mirror_places.proofs.laws.mirrors_are_followed.Goals as goal

pub returns : goal.returns
returns c = followed c.names_go_by_their_codes.ensures.same c.updates_lead_to_their_sets.ensures
