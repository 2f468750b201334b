use Rattle.proxy_looks.proofs.OneMore.{settled_keep_looks}
use Rattle.proxy_looks.proofs.laws.settled_urls_keep_their_looks.Goals as goal

pub returns : goal.returns
returns c = settled_keep_looks
