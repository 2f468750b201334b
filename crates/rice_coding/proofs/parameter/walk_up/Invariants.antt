use Rattle.std.proofs.Common.{◌≡◌, ◌-◌, ◌≤◌, ◌<◌}
use Rattle.rice_coding.specs.Codes.{coded_length, differences}
use Rattle.rice_coding.proofs.parameter.walk_up.Given as goal

abbrev pub invariant-loop-best : goal.invariant-loop-best
invariant-loop-best l =
    (2 ≤ l.best.parameter) × (l.best.parameter ≤ 28)
    × (l.best.bits ≡ coded_length l.best.parameter (differences l.first l.rest))
    × (2 < l.best.parameter → l.best.bits < coded_length (l.best.parameter - 1) (differences l.first l.rest))

abbrev pub decreases-loop-best : goal.decreases-loop-best
decreases-loop-best l = 28 - l.best.parameter
