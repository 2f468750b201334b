use Rattle.client_laws.proofs.Decided.{complete}
use Rattle.client_laws.proofs.verdicts.resolutions_are_complete.Goals as goal

pub returns : goal.returns
returns c = complete
