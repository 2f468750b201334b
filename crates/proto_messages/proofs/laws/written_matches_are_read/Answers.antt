use Rattle.proto_messages.proofs.AnswerFacts.{find_read}
use Rattle.proto_messages.proofs.laws.written_matches_are_read.Goals as goal

pub returns : goal.returns
returns c = find_read (record { written = c.written_fields_are_read.ensures; read = c.bytes_read_one_way.ensures.fields })
