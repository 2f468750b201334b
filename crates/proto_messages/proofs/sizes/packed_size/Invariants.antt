use Rattle.std.proofs.Common.{◌≡◌, ◌+◌, ◌<◌, ◌^◌, length}
use Rattle.proto_messages.specs.Writing as spec
use Rattle.proto_messages.proofs.sizes.packed_size.Given as goal

abbrev pub invariant-loop-number : goal.invariant-loop-number
invariant-loop-number l = record {
  all : length (spec.packed_varint_bytes l.numbers) ≡ l.size + length (spec.packed_varint_bytes l.rest);
  limit : l.size < 2 ^ 63;
}

abbrev pub decreases-loop-number : goal.decreases-loop-number
decreases-loop-number l = length l.rest
