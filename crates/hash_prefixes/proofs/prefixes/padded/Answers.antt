use Rattle.std.proofs.Common.{ℕ, List, ◌++◌, length, ap}
use Rattle.std.proofs.lemmas.List.{drop-replicate}
use Rattle.hash_prefixes.proofs.prefixes.padded.Goals as goal

-- what the copy leaves of the 32 zeros
pub returns : goal.returns
returns c =
    rw c.copy_from_slice.ensures.after
    (ap (λ (rest : List ℕ). c.args.bytes.now ++ rest) (drop-replicate (length c.args.bytes.now) 32 0))
