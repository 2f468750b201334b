use Rattle.mirror_laws.proofs.StrangerFacts.{none_named, strangers_get_whole, strangers_name_none, whole_answered}
use Rattle.mirror_laws.proofs.strangers.strangers_name_no_place.Goals as goal

pub returns-clause-places : goal.returns-clause-places
returns-clause-places c = strangers_name_none c.mirror_tokens_name_places.ensures

pub returns-clause-from_mirrors : goal.returns-clause-from_mirrors
returns-clause-from_mirrors c = strangers_get_whole c.mirror_tokens_name_places.ensures

pub returns-clause-versions : goal.returns-clause-versions
returns-clause-versions c = none_named

pub returns-clause-from_servers : goal.returns-clause-from_servers
returns-clause-from_servers c = whole_answered
