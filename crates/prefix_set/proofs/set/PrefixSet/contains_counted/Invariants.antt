use Rattle.std.proofs.Common.{◌≤◌, ◌-◌, length, take, drop}
use Rattle.prefix_set.specs.Index.{alike_count}
use Rattle.prefix_set.specs.Search.{AreBefore, AreAfter}
use Rattle.prefix_set.proofs.LookupFacts.{HasHalved}
use Rattle.prefix_set.proofs.set.PrefixSet.contains_counted.Given as goal

-- What is in front of `low` comes before the prefix, and what is from `high` on comes after it. Each step halved what is between.
abbrev pub invariant-loop-low : goal.invariant-loop-low
invariant-loop-low g l = record {
  order : l.low ≤ l.high;
  within : l.high ≤ length l.store;
  before : AreBefore (take l.low l.store) l.prefix;
  after : AreAfter (drop l.high l.store) l.prefix;
  halved : HasHalved (alike_count l.store l.prefix) (l.high - l.low) l.fn.steps l.steps;
}

abbrev pub decreases-loop-low : goal.decreases-loop-low
decreases-loop-low g l = l.high - l.low
