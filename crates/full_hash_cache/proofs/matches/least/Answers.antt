use Rattle.std.proofs.Common.{ℕ, List, ◌++◌, length, ap}
use Rattle.std.proofs.lemmas.List.{drop-replicate}
use Rattle.full_hash_cache.proofs.matches.least.Goals as goal

-- what the copy leaves of the 32 bytes
pub returns-clause-value : goal.returns-clause-value
returns-clause-value c =
    rw (c.copy_from_slice.ensures.after, c.as_bytes-own.ensures, c.from-size.ensures, c.size.ensures.value)
    (ap (λ (rest : List ℕ). c.args.prefix.now ++ rest) (drop-replicate (length c.args.prefix.now) 32 0))
