use Rattle.std.proofs.Common.{◌≡◌, ◌+◌, ◌≤◌, ◌<◌}
use Rattle.rice_coding.specs.Codes.{coded_length, differences}
use Rattle.rice_coding.proofs.parameter.walk_down.Given as goal

abbrev pub invariant-loop-best : goal.invariant-loop-best
invariant-loop-best l =
    (2 ≤ l.best.parameter) × (l.best.parameter ≤ l.fn.start.parameter)
    × (l.best.bits ≡ coded_length l.best.parameter (differences l.first l.rest))
    × (l.best.parameter < l.fn.start.parameter → l.best.bits ≤ coded_length (l.best.parameter + 1) (differences l.first l.rest))

abbrev pub decreases-loop-best : goal.decreases-loop-best
decreases-loop-best l = l.best.parameter
