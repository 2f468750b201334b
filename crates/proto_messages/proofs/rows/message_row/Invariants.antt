use Rattle.std.proofs.Common.{◌≡◌, length, Ok}
use Rattle.proto_wire.specs.Reading.{wire_fields}
use Rattle.sb_json.specs.Values.{◌>>=◌}
use Rattle.proto_messages.specs.Fields.{message_row, message_of, each, fields_within}
use Rattle.proto_messages.proofs.rows.message_row.Given as goal

abbrev pub invariant-loop-value : goal.invariant-loop-value
invariant-loop-value l =
    message_row l.field l.number (wire_fields l.bytes).items
    ≡ (each (message_of l.field) l.values >>= λ _. Ok (fields_within l.number (wire_fields l.bytes).items))

abbrev pub decreases-loop-value : goal.decreases-loop-value
decreases-loop-value l = length l.values
