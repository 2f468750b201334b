use Rattle.proto_wire.specs.Wire.{IsVarintOf, IsVarintFault, IsFieldOf, IsFieldFault}
use Rattle.proto_wire.specs.Reading.{varint_at, field_at}
use Rattle.proto_wire.proofs.ItemFacts.{item_readings, item_faults}
use Rattle.proto_wire.proofs.VarintExact.{varints_exact}
use Rattle.proto_wire.proofs.FieldExact.{fields_exact}
use Rattle.proto_wire.proofs.laws.bytes_read_one_way.Goals as goal

pub returns : goal.returns
returns c = record {
  fields = item_readings field_at IsFieldOf IsFieldFault fields_exact;
  fault = item_faults field_at IsFieldOf IsFieldFault fields_exact;
  numbers = item_readings varint_at IsVarintOf IsVarintFault varints_exact;
  number_fault = item_faults varint_at IsVarintOf IsVarintFault varints_exact;
}
