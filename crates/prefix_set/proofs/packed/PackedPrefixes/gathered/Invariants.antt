use Rattle.std.proofs.Common.{◌≡◌, take}
use Rattle.sb_model.specs.Prefixes.{concatenation}
use Rattle.prefix_set.proofs.SizeFacts.{sized}
use Rattle.prefix_set.proofs.packed.PackedPrefixes.gathered.Given as goal

-- the bytes so far
abbrev pub invariant-loop-i : goal.invariant-loop-i
invariant-loop-i l = l.bytes ≡ concatenation (sized l.size (take l.i l.self))
