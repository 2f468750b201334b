use Rattle.std.specs.List.{IsFirstBest}
use Rattle.gathering.specs.Turns.{turn_before}
use Rattle.gathering.proofs.turns.first_turn.Given as goal

abbrev pub invariant-loop-at : goal.invariant-loop-at
invariant-loop-at l = IsFirstBest (turn_before l.shares) l.line l.at l.first
