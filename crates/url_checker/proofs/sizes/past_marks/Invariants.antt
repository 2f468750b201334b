use Rattle.std.proofs.Common.{◌≤◌}
use Rattle.url_checker.specs.Hits.{IsPastMarks}
use Rattle.url_checker.proofs.sizes.past_marks.Given as goal

-- no size so far is marked
abbrev pub invariant-loop-past : goal.invariant-loop-past
invariant-loop-past l = record {
  past : IsPastMarks l.marks l.past;
  at_least : 4 ≤ l.past;
  at_most : l.past ≤ 33;
}

abbrev pub decreases-loop-past : goal.decreases-loop-past
decreases-loop-past l = l.past
