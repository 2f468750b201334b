use Rattle.std.proofs.Common.{◌≡◌, map, take}
use Rattle.std.specs.Int.{w32, from_be_bytes}
use Rattle.prefix_set.proofs.sorting.numbers_of.Given as goal

-- the numbers of the prefixes so far
abbrev pub invariant-loop-quad : goal.invariant-loop-quad
invariant-loop-quad l = l.numbers.items ≡ map (from_be_bytes w32) (take l.quad-index l.quads)
