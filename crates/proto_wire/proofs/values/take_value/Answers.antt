use Rattle.std.proofs.Common.{arith}
use Rattle.proto_wire.proofs.ValueFacts.{other_type}
use Rattle.proto_wire.proofs.values.take_value.Goals as goal

pub returns-in_default-clause-fault : goal.returns-in_default-clause-fault
returns-in_default-clause-fault c =
    other_type c.args.place c.args.wire_type c.args.bytes.now (omega arith) (omega arith) (omega arith) (omega arith)
