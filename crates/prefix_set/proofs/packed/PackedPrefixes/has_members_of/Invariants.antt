use Rattle.std.proofs.Common.{◌≡◌, take}
use Rattle.prefix_set.proofs.packed.PackedPrefixes.has_members_of.Given as goal

-- the prefixes so far are the same
abbrev pub invariant-loop-i : goal.invariant-loop-i
invariant-loop-i l = take l.i l.self ≡ take l.i l.other
