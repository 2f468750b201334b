use Rattle.std.proofs.Common.{◌≡◌, ◌+◌, ◌≤◌, length}
use Rattle.proto_wire.specs.Reading.{wire_fields}
use Rattle.proto_messages.specs.Fields.{field_values_at}
use Rattle.proto_messages.specs.Fetch as spec
use Rattle.proto_messages.proofs.fetch_items.named_count.Given as goal

abbrev pub invariant-loop-value : goal.invariant-loop-value
invariant-loop-value l = record {
  counted : spec.named_items_count (field_values_at 3 (wire_fields l.bytes).items) ≡ l.count + spec.named_items_count l.values;
  few : l.count + length l.values ≤ length l.bytes;
}

abbrev pub decreases-loop-value : goal.decreases-loop-value
decreases-loop-value l = length l.values
