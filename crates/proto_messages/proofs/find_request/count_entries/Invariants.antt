use Rattle.std.proofs.Common.{◌≡◌, ◌+◌, length}
use Rattle.proto_messages.specs.Fields.{field_values_at}
use Rattle.proto_messages.specs.Parts.{fields_of_part}
use Rattle.proto_messages.proofs.find_request.count_entries.Given as goal

abbrev pub invariant-loop-count : goal.invariant-loop-count
invariant-loop-count l = length (field_values_at 3 (fields_of_part l.info)) ≡ l.count + length l.values

abbrev pub decreases-loop-count : goal.decreases-loop-count
decreases-loop-count l = length l.values
