use Rattle.std.proofs.Common.{◌≡◌, ℕ, ◌<◌, false, length, get_or, take}
use Rattle.std.specs.List.{list_any}
use Rattle.update_messages.specs.Answer.{has_size}
use Rattle.set_updates.proofs.sets.sizes_in.Given as goal

abbrev pub invariant-loop-member : goal.invariant-loop-member
invariant-loop-member l = record {
  occurs : (size : ℕ) → size < 33 → get_or l.sizes size false ≡ list_any (has_size size) (take l.member-index l.members);
  length : length l.sizes ≡ 33;
}
