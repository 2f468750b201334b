use Rattle.std.proofs.Common.{◌≡◌, map, take}
use Rattle.std.specs.Prelude.{All}
use Rattle.std.specs.Int.{w32, from_le_bytes}
use Rattle.list_versions.specs.Numbers.{Tells}
use Rattle.list_versions.proofs.numbers.numbers_in_order.Given as goal

abbrev pub invariant-loop-quad : goal.invariant-loop-quad
invariant-loop-quad l = record {
  numbers : l.numbers.items ≡ map (from_le_bytes w32) (take l.quad-index l.quads);
  tell : All Tells (take l.quad-index l.quads);
}
