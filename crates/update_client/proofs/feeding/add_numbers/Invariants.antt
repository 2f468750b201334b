use Rattle.std.proofs.Common.{◌≡◌, ◌++◌, length, map}
use Rattle.std.specs.Int.{w32, to_le_bytes}
use Rattle.update_client.proofs.feeding.add_numbers.Given as goal

abbrev pub invariant-loop-ended : goal.invariant-loop-ended
invariant-loop-ended l = record {
  numbers : l.edit.additions ++ map (to_le_bytes w32) l.reader.values ≡ l.fn.edit.additions ++ map (to_le_bytes w32) l.fn.reader.values;
  removals : l.edit.removals ≡ l.fn.edit.removals;
  fault : l.reader.fault ≡ l.fn.reader.fault;
}

abbrev pub decreases-loop-ended : goal.decreases-loop-ended
decreases-loop-ended l = length l.reader.values
