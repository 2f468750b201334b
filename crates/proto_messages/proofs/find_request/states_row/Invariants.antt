use Rattle.std.proofs.Common.{◌≡◌, length}
use Rattle.proto_wire.specs.Reading.{wire_fields}
use Rattle.sb_json.specs.declared.fields.Field.TheVariants as field
use Rattle.proto_messages.specs.Fields.{after, each, bytes_in_field}
use Rattle.proto_messages.specs.Find.{client_states_row}
use Rattle.proto_messages.proofs.find_request.states_row.Given as goal

abbrev pub invariant-loop-value : goal.invariant-loop-value
invariant-loop-value l = client_states_row (wire_fields l.bytes).items ≡ after l.states (each (bytes_in_field field.ClientStates) l.values)

abbrev pub decreases-loop-value : goal.decreases-loop-value
decreases-loop-value l = length l.values
