use Rattle.std.proofs.Common.{◌≡◌, length}
use Rattle.proto_messages.specs.Fields.{bytes_row, bytes_in_field, last_value_of}
use Rattle.proto_messages.specs.Parts.{fields_of_part}
use Rattle.proto_messages.proofs.rows.bytes_row.Given as goal

abbrev pub invariant-loop-value : goal.invariant-loop-value
invariant-loop-value l = bytes_row l.field l.number (fields_of_part l.part) ≡ last_value_of (bytes_in_field l.field) l.last l.values

abbrev pub decreases-loop-value : goal.decreases-loop-value
decreases-loop-value l = length l.values
