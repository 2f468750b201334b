use Rattle.full_hash_cache.proofs.Told.{told_after}
use Rattle.full_hash_cache.proofs.laws.unsafe_hashes_were_told.Goals as goal

pub returns : goal.returns
returns c = told_after
