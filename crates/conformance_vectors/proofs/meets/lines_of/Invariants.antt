use Rattle.std.proofs.Common.{◌≡◌, take}
use Rattle.conformance_vectors.specs.Vectors.{ended_lines}
use Rattle.conformance_vectors.proofs.meets.lines_of.Given as goal

abbrev pub invariant-loop-text : goal.invariant-loop-text
invariant-loop-text l = l.lines ≡ ended_lines (take l.text-index l.texts)
