use Rattle.std.proofs.Common.{◌≡◌, length, All}
use Rattle.snapshot_publish.proofs.publisher.copies_of.Given as goal

abbrev pub invariant-loop-made : goal.invariant-loop-made
invariant-loop-made l = (length l.copies ≡ l._made) × All (λ copy. copy ≡ l.next) l.copies
