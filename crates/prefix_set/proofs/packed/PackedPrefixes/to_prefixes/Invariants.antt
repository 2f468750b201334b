use Rattle.std.proofs.Common.{◌≡◌, take}
use Rattle.prefix_set.proofs.packed.PackedPrefixes.to_prefixes.Given as goal

-- the prefixes so far
abbrev pub invariant-loop-i : goal.invariant-loop-i
invariant-loop-i l = l.prefixes.items ≡ take l.i l.self
