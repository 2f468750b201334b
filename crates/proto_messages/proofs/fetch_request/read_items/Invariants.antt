use Rattle.std.proofs.Common.{◌≡◌, ◌+◌, ◌≤◌, length, Ok}
use Rattle.proto_wire.specs.Reading.{wire_fields}
use Rattle.sb_json.specs.Values.{◌>>=◌}
use Rattle.proto_messages.specs.Fields.{field_values_at}
use Rattle.proto_messages.specs.Rows.{items_numbered_from}
use Rattle.proto_messages.specs.Fetch as spec
use Rattle.proto_messages.proofs.fetch_request.read_items.Given as goal

abbrev pub invariant-loop-value : goal.invariant-loop-value
invariant-loop-value l = record {
  read :
      spec.read_items (field_values_at 3 (wire_fields l.bytes).items)
      ≡ (items_numbered_from spec.asked_of l.number l.values >>= λ more. Ok (spec.more_asked l.asked more));
  named : spec.named_items_count (field_values_at 3 (wire_fields l.bytes).items) ≡ length l.asked.lists + spec.named_items_count l.values;
  few : l.number + length l.values ≤ length l.bytes + 1;
}

abbrev pub decreases-loop-value : goal.decreases-loop-value
decreases-loop-value l = length l.values
