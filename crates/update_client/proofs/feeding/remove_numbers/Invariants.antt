use Rattle.std.proofs.Common.{◌≡◌, ◌++◌, length}
use Rattle.update_client.proofs.feeding.remove_numbers.Given as goal

abbrev pub invariant-loop-place : goal.invariant-loop-place
invariant-loop-place l = record {
  numbers : l.edit.removals ++ l.reader.values ≡ l.fn.edit.removals ++ l.fn.reader.values;
  additions : l.edit.additions ≡ l.fn.edit.additions;
  fault : l.reader.fault ≡ l.fn.reader.fault;
}

abbrev pub decreases-loop-place : goal.decreases-loop-place
decreases-loop-place l = length l.reader.values
