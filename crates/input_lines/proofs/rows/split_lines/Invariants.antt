use Rattle.std.proofs.Common.{◌≡◌, ◌++◌, length}
use Rattle.input_lines.specs.Lines.{lines_of}
use Rattle.input_lines.proofs.rows.split_lines.Given as goal

-- the lines so far, and the others are left
abbrev pub invariant-loop-rest : goal.invariant-loop-rest
invariant-loop-rest l = l.lines ++ lines_of l.rest ≡ lines_of l.text

abbrev pub decreases-loop-rest : goal.decreases-loop-rest
decreases-loop-rest l = length l.rest
