use Rattle.std.proofs.Common.{◌≡◌, ℕ, ◌-◌, ◌^◌, length, min}
use Rattle.rice_coding.specs.Bits.{bits_from}
use Rattle.rice_coding.specs.Reading.{unary}
use Rattle.rice_coding.proofs.CodeFacts.{after_ones}
use Rattle.rice_coding.proofs.cursor.take_ones.Given as goal

abbrev pub invariant-loop-place : goal.invariant-loop-place
invariant-loop-place l =
    (skipped : ℕ) × (unary (bits_from l.at.bytes.now l.at.offset) ≡ after_ones skipped (unary (bits_from l.place.bytes.now l.place.offset)))
    × (l.total ≡ min skipped (2 ^ 64 - 1))

abbrev pub decreases-loop-place : goal.decreases-loop-place
decreases-loop-place l = length (bits_from l.place.bytes.now l.place.offset)
