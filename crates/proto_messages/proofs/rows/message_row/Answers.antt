use Rattle.proto_messages.specs.Parts.{fields_of_part}
use Rattle.proto_messages.proofs.FieldFacts.{few_within_text}
use Rattle.proto_messages.proofs.rows.message_row.Goals as goal

pub returns-clause-few : goal.returns-clause-few
unfolding fields_of_part
returns-clause-few c =
    few_within_text (record { fields = c.bytes_read_one_way.ensures.fields; fault = c.bytes_read_one_way.ensures.fault }) c.args.number c.args.bytes.now
