use Rattle.std.specs.List.{IsFirstBest}
use Rattle.gathering.specs.Turns.{yield_before}
use Rattle.gathering.proofs.turns.first_of_all.Given as goal

abbrev pub invariant-loop-at : goal.invariant-loop-at
invariant-loop-at l = IsFirstBest (yield_before l.crowd) l.guests l.at l.first
