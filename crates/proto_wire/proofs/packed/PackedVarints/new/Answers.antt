use Rattle.std.proofs.Common.{refl}
use Rattle.proto_wire.specs.Wire.{IsVarintOf, IsVarintFault}
use Rattle.proto_wire.specs.Reading.{varint_at, packed_varints}
use Rattle.proto_wire.proofs.ItemFacts.{ends_well, ends_in_fault}
use Rattle.proto_wire.proofs.VarintExact.{varints_exact}
use Rattle.proto_wire.proofs.packed.PackedVarints.new.Goals as goal

pub returns-clause-numbers : goal.returns-clause-numbers
returns-clause-numbers c = ends_well varint_at IsVarintOf IsVarintFault varints_exact c.args.bytes.now (packed_varints c.args.bytes.now) refl

pub returns-clause-fault : goal.returns-clause-fault
returns-clause-fault c = ends_in_fault varint_at IsVarintOf IsVarintFault varints_exact c.args.bytes.now (packed_varints c.args.bytes.now) refl
