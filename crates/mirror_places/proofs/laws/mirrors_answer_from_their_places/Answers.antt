use Rattle.mirror_places.proofs.FollowFacts.{answers}
use Rattle.mirror_places.proofs.laws.mirrors_answer_from_their_places.Goals as goal

pub returns : goal.returns
returns c = answers
