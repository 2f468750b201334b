use Rattle.proto_wire.proofs.WrittenFacts.{written_read}
use Rattle.proto_wire.proofs.laws.written_fields_are_read.Goals as goal

pub returns : goal.returns
returns c = written_read
