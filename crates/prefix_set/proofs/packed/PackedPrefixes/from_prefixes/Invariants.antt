use Rattle.std.proofs.Common.{◌≡◌, take}
use Rattle.prefix_set.proofs.packed.PackedPrefixes.from_prefixes.Given as goal

-- the prefixes so far
abbrev pub invariant-loop-prefix : goal.invariant-loop-prefix
invariant-loop-prefix l = l.packed ≡ take l.prefix-index l.prefixes
