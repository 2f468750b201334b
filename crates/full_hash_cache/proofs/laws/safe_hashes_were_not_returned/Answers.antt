use Rattle.full_hash_cache.proofs.NotReturned.{not_returned_after}
use Rattle.full_hash_cache.proofs.laws.safe_hashes_were_not_returned.Goals as goal

pub returns : goal.returns
returns c = not_returned_after
