use Rattle.std.proofs.Common.{◌<◌, ◌≤◌, ◌-◌, length, take}
use Rattle.prefix_set.specs.Search.{AreBefore}
use Rattle.prefix_set.proofs.search.gallop.Given as goal

abbrev pub invariant-loop-step : goal.invariant-loop-step
invariant-loop-step l = record {
  from : l.from ≤ l.low;
  within : l.low ≤ length l.members;
  forward : 0 < l.step;
  below : AreBefore (take l.low l.members) l.prefix;
}

abbrev pub decreases-loop-step : goal.decreases-loop-step
decreases-loop-step l = length l.members - l.low
