use Rattle.proto_wire.proofs.WrittenFacts.{varint_is, varint_shortest}
use Rattle.proto_wire.proofs.laws.varints_are_shortest.Goals as goal

pub returns : goal.returns
returns c = record { spelled = varint_is; shortest = varint_shortest }
