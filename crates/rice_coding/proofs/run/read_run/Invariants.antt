use Rattle.std.proofs.Common.{◌≡◌, ℕ, ◌+◌, ◌-◌, ◌^◌, ◌<◌, ◌≤◌, ◌++◌, length}
use Rattle.rice_coding.specs.Bits.{bits_from}
use Rattle.rice_coding.specs.Reading.{Reading, reading}
use Rattle.rice_coding.proofs.run.read_run.Given as goal

abbrev pub invariant-loop-left : goal.invariant-loop-left
invariant-loop-left l =
    let now : ℕ → Reading = λ entry. reading l.parameter l.left (entry + (l.count - l.left)) l.value (bits_from l.at.bytes.now l.at.bit) in
    let whole : ℕ → Reading = λ entry. reading l.parameter l.count entry l.first (bits_from l.start.bytes.now l.start.bit) in
    (l.left ≤ l.count)
    × (l.value < 2 ^ 32)
    × (length l.fn.values ≤ length l.values)
    × ((entry : ℕ) → l.values ++ (now entry).values ≡ l.fn.values ++ (whole entry).values)
    × ((entry : ℕ) → (now entry).fault ≡ (whole entry).fault)

abbrev pub decreases-loop-left : goal.decreases-loop-left
decreases-loop-left l = l.left
