use Rattle.std.proofs.Common.{◌≡◌, ℕ, ◌<◌, ◌≤◌, length, get_or}
use Rattle.rice_coding.proofs.cursor.word_of.Given as goal

abbrev pub invariant-loop-i : goal.invariant-loop-i
invariant-loop-i l = (length l.chunk ≡ 8) × ((k : ℕ) → k < l.i → get_or l.chunk k 0 ≡ get_or l.bytes k 0) × ((k : ℕ) → l.i ≤ k → get_or l.chunk k 0 ≡ 0)
