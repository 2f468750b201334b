use Rattle.std.proofs.Common.{◌≡◌, map, take}
use Rattle.std.specs.Int.{w32, from_le_bytes}
use Rattle.set_updates.proofs.numbers.numbers_in_order.Given as goal

abbrev pub invariant-loop-quad : goal.invariant-loop-quad
invariant-loop-quad l = l.numbers.items ≡ map (from_le_bytes w32) (take l.quad-index l.quads)
