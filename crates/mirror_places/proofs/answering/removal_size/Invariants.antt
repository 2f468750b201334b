use Rattle.std.proofs.Common.{◌≡◌, ℕ, ◌<◌, ◌≤◌, false, get_or}
use Rattle.mirror_places.proofs.answering.removal_size.Given as goal

abbrev pub invariant-loop-size : goal.invariant-loop-size
invariant-loop-size l = (n : ℕ) → 5 ≤ n → n < l.size → get_or l.sizes n false ≡ false
