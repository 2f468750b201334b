use Rattle.mirror_laws.proofs.ChainFacts.{have_a_top, lead_to_the_server, tops_are_one, without_a_token}
use Rattle.mirror_laws.proofs.chains.chains_lead_to_the_server.Goals as goal

pub returns-clause-top : goal.returns-clause-top
returns-clause-top c = have_a_top

pub returns-clause-one : goal.returns-clause-one
returns-clause-one c = tops_are_one c.mirror_tokens_name_places.ensures

pub returns-clause-server : goal.returns-clause-server
returns-clause-server c = lead_to_the_server c.names_go_by_their_codes.ensures.same

pub returns-clause-empty : goal.returns-clause-empty
returns-clause-empty c = without_a_token
