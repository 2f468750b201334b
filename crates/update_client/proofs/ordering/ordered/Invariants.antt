use Rattle.std.proofs.Common.{◌≡◌, ◌≤◌, drop, length}
use Rattle.update_client.specs.Held.{in_order}
use Rattle.update_client.proofs.ordering.ordered.Given as goal

abbrev pub invariant-loop-left : goal.invariant-loop-left
invariant-loop-left l = record {
  within : l.left ≤ length l.names;
  behind : l.ordered.items ≡ in_order (drop l.left l.names);
}

abbrev pub decreases-loop-left : goal.decreases-loop-left
decreases-loop-left l = l.left
