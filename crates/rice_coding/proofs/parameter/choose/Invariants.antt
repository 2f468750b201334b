use Rattle.std.proofs.Common.{◌≡◌, ◌+◌, ◌*◌, ◌^◌, ◌≤◌, ◌∷◌, get_or, drop}
use Rattle.rice_coding.specs.Codes.{coded_length, differences}
use Rattle.rice_coding.proofs.parameter.choose.Given as goal

abbrev pub invariant-loop-value : goal.invariant-loop-value
invariant-loop-value l =
    (l.previous ≡ get_or (l.first ∷ l.rest) l.value-index 0)
    × (l.bits + coded_length l.parameter (differences l.previous (drop l.value-index l.rest)) ≡ coded_length l.parameter (differences l.first l.rest))
    × (l.bits ≤ 2 ^ 33 * l.value-index)
