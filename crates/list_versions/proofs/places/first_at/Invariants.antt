use Rattle.std.proofs.Common.{◌≢◌, ◌<◌, ◌≤◌, ◌-◌, length, take, get_or, []}
use Rattle.std.specs.declared.cmp.Ordering.TheVariants.{Less}
use Rattle.sb_model.specs.Prefixes.{bytes_cmp}
use Rattle.prefix_set.specs.Search.{AreBefore}
use Rattle.list_versions.proofs.places.first_at.Given as goal

abbrev pub invariant-loop-low : goal.invariant-loop-low
invariant-loop-low l = record {
  order : l.low ≤ l.high;
  within : l.high ≤ length l.set;
  before : AreBefore (take l.low l.set) l.prefix;
  here : l.high < length l.set → bytes_cmp (get_or l.set l.high []) l.prefix ≢ Less;
}

abbrev pub decreases-loop-low : goal.decreases-loop-low
decreases-loop-low l = l.high - l.low
