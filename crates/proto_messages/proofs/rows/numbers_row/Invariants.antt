use Rattle.std.proofs.Common.{◌≡◌, length}
use Rattle.proto_messages.specs.Fields.{numbers_row, numbers_in_field, joined_values, after}
use Rattle.proto_messages.specs.Parts.{fields_of_part}
use Rattle.proto_messages.proofs.rows.numbers_row.Given as goal

abbrev pub invariant-loop-value : goal.invariant-loop-value
invariant-loop-value l = numbers_row l.field l.number (fields_of_part l.part) ≡ after l.numbers (joined_values (numbers_in_field l.field) l.values)

abbrev pub decreases-loop-value : goal.decreases-loop-value
decreases-loop-value l = length l.values
