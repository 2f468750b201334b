use Rattle.std.proofs.Common.{◌≡◌, ◌+◌, ◌%◌, ◌++◌, length, map}
use Rattle.std.specs.Int.{w32, to_le_bytes}
use Rattle.prefix_set.specs.Pieces.{pieces_of}
use Rattle.update_client.proofs.feeding.gather.Given as goal

abbrev pub invariant-loop-gathered : goal.invariant-loop-gathered
invariant-loop-gathered l = record {
  whole : length l.block % 4 ≡ 0;
  numbers : pieces_of 4 l.block ++ map (to_le_bytes w32) l.reader.values ≡ pieces_of 4 l.fn.block ++ map (to_le_bytes w32) l.fn.reader.values;
  fault : l.reader.fault ≡ l.fn.reader.fault;
  count : length l.reader.values + l._gathered ≡ length l.fn.reader.values;
}
