use Rattle.std.proofs.Common.{◌≡◌, ◌≤◌, length}
use Rattle.proto_messages.specs.Fields.{fields_within}
use Rattle.proto_messages.proofs.part.next_message.Given as goal

abbrev pub invariant-loop-field : goal.invariant-loop-field
invariant-loop-field l = record {
  same : fields_within l.under l.fn.outer.items ≡ fields_within l.under l.outer.items;
  fewer : length l.outer.items ≤ length l.fn.outer.items;
}

abbrev pub decreases-loop-field : goal.decreases-loop-field
decreases-loop-field l = length l.outer.items
