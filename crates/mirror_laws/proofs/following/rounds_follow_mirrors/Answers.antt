use Rattle.mirror_laws.proofs.RoundFacts.{rounds_follow}
use Rattle.mirror_laws.proofs.following.rounds_follow_mirrors.Goals as goal

pub returns : goal.returns
returns c = rounds_follow c.mirrors_are_followed.ensures c.taken_lists_keep_their_names.ensures
