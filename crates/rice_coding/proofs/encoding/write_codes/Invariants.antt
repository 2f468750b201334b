use Rattle.std.proofs.Common.{◌≡◌, ◌++◌, ◌∷◌, get_or, drop}
use Rattle.rice_coding.specs.Codes.{codes, differences}
use Rattle.rice_coding.proofs.encoding.write_codes.Given as goal

abbrev pub invariant-loop-value : goal.invariant-loop-value
invariant-loop-value l =
    (l.previous ≡ get_or (l.first ∷ l.rest) l.value-index 0)
    × ((l.writer ++ l.pending) ++ codes l.choice.parameter (differences l.previous (drop l.value-index l.rest)) ≡ codes l.choice.parameter (differences l.first l.rest))
