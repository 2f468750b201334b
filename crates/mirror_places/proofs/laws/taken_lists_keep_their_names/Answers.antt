use Rattle.mirror_places.proofs.FollowFacts.{names_kept}
use Rattle.mirror_places.proofs.laws.taken_lists_keep_their_names.Goals as goal

pub returns : goal.returns
returns c = names_kept
