use Rattle.std.proofs.Common.{◌≡◌, ◌+◌, length}
use Rattle.proto_messages.specs.Fields.{field_values_at, after}
use Rattle.proto_messages.specs.Rows.{items_numbered_from}
use Rattle.proto_messages.specs.Find.{entry_prefix_of}
use Rattle.proto_messages.specs.Parts.{fields_of_part}
use Rattle.proto_messages.proofs.find_request.read_prefixes.Given as goal

abbrev pub invariant-loop-value : goal.invariant-loop-value
invariant-loop-value l = record {
  read : items_numbered_from entry_prefix_of 1 (field_values_at 3 (fields_of_part l.info)) ≡ after l.prefixes (items_numbered_from entry_prefix_of l.number l.values);
  number : l.number ≡ length l.prefixes + 1;
  all : length (field_values_at 3 (fields_of_part l.info)) ≡ length l.prefixes + length l.values;
}

abbrev pub decreases-loop-value : goal.decreases-loop-value
decreases-loop-value l = length l.values
