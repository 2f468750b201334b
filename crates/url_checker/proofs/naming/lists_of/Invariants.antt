use Rattle.std.proofs.Common.{◌≡◌, ◌≤◌, drop, length}
use Rattle.url_checker.specs.Resolving.{lists_hit}
use Rattle.url_checker.proofs.naming.lists_of.Given as goal

abbrev pub invariant-loop-left : goal.invariant-loop-left
invariant-loop-left l = record {
  within : l.left ≤ length l.hits;
  behind : l.names.items ≡ lists_hit (drop l.left l.hits);
}

abbrev pub decreases-loop-left : goal.decreases-loop-left
decreases-loop-left l = l.left
