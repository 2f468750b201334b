use Rattle.std.proofs.Common.{◌≢◌, ◌<◌, ◌≤◌, ◌-◌, length, take, slice_index_or, []}
use Rattle.std.specs.declared.cmp.Ordering.TheVariants.{Less}
use Rattle.sb_model.specs.Prefixes.{bytes_cmp}
use Rattle.prefix_set.specs.Search.{AreBefore}
use Rattle.prefix_set.proofs.search.first_not_before.Given as goal

abbrev pub invariant-loop-low : goal.invariant-loop-low
invariant-loop-low l = record {
  from : l.from ≤ l.low;
  order : l.low ≤ l.high;
  to : l.high ≤ l.to;
  below : AreBefore (take l.low l.members) l.prefix;
  above : l.high < length l.members → bytes_cmp (slice_index_or l.members l.high []) l.prefix ≢ Less;
}

abbrev pub decreases-loop-low : goal.decreases-loop-low
decreases-loop-low l = l.high - l.low
