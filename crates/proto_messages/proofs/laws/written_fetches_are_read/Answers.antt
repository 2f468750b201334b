use Rattle.proto_messages.proofs.UpdateFacts.{fetch_read}
use Rattle.proto_messages.proofs.laws.written_fetches_are_read.Goals as goal

pub returns : goal.returns
returns c =
    let read = c.bytes_read_one_way.ensures in
    fetch_read (record { written = c.written_fields_are_read.ensures; read = read.fields }) (record { spelled = c.varints_are_shortest.ensures.spelled; read = read.numbers })
