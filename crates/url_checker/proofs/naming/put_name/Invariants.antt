use Rattle.std.proofs.Common.{◌≡◌, ◌≤◌, ◌-◌, ◌++◌, take, drop, length}
use Rattle.update_client.specs.Held.{with_name}
use Rattle.url_checker.proofs.naming.put_name.Given as goal

abbrev pub invariant-loop-place : goal.invariant-loop-place
invariant-loop-place l = record {
  same : l.names ≡ l.fn.names;
  within : l.place ≤ length l.names.items;
  front : with_name l.name l.names.items ≡ take l.place l.names.items ++ with_name l.name (drop l.place l.names.items);
}

abbrev pub decreases-loop-place : goal.decreases-loop-place
decreases-loop-place l = length l.names.items - l.place
