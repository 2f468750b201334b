use Rattle.std.proofs.Common.{◌≡◌, ℕ, ◌<◌, false, length, get_or, take}
use Rattle.prefix_set.proofs.SizeFacts.{any_sized}
use Rattle.prefix_set.proofs.packed.PackedPrefixes.sizes_met.Given as goal

-- the sizes so far
abbrev pub invariant-loop-i : goal.invariant-loop-i
invariant-loop-i l = record {
  occurs : (size : ℕ) → size < 33 → get_or l.sizes size false ≡ any_sized size (take l.i l.self);
  length : length l.sizes ≡ 33;
}
