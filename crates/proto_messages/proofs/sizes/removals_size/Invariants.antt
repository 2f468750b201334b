use Rattle.std.proofs.Common.{◌≡◌, ◌+◌, ◌<◌, ◌^◌, map, length}
use Rattle.proto_wire.specs.Spelling.{written_fields}
use Rattle.proto_messages.specs.Writing as spec
use Rattle.proto_messages.proofs.sizes.removals_size.Given as goal

abbrev pub invariant-loop-set : goal.invariant-loop-set
invariant-loop-set l = record {
  all : length (written_fields (map spec.removal_field l.sets)) ≡ l.size + length (written_fields (map spec.removal_field l.rest));
  limit : l.size < 2 ^ 63;
}

abbrev pub decreases-loop-set : goal.decreases-loop-set
decreases-loop-set l = length l.rest
