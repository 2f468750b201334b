use Rattle.std.proofs.Common.{◌≡◌, ◌++◌, length}
use Rattle.rice_coding.proofs.decoding.read_all.Given as goal

abbrev pub invariant-loop-values : goal.invariant-loop-values
invariant-loop-values l = (l.values ++ l.reader.values ≡ l.fn.values ++ l.fn.reader.values) × (l.reader.fault ≡ l.fn.reader.fault)

abbrev pub decreases-loop-values : goal.decreases-loop-values
decreases-loop-values l = length l.reader.values
