use Rattle.mirror_places.proofs.TokenFacts.{names_places}
use Rattle.mirror_places.proofs.laws.mirror_tokens_name_places.Goals as goal

pub returns : goal.returns
returns c = names_places c.names_go_by_their_codes.ensures.same
