use Rattle.std.proofs.Common.{◌≡◌, length}
use Rattle.proto_wire.specs.Reading.{packed_varints}
use Rattle.proto_messages.specs.Fields.{after, whole, packed_of}
use Rattle.proto_messages.proofs.rows.push_packed.Given as goal

abbrev pub invariant-loop-number : goal.invariant-loop-number
invariant-loop-number l = record {
  pushed : after l.fn.numbers (packed_of l.field l.bytes) ≡ after l.numbers (whole l.field l.packed.items l.packed.fault);
  fault : l.packed.fault ≡ (packed_varints l.bytes).fault;
}

abbrev pub decreases-loop-number : goal.decreases-loop-number
decreases-loop-number l = length l.packed.items
