use Rattle.std.proofs.Common.{refl}
use Rattle.proto_wire.specs.Wire.{IsFieldOf, IsFieldFault}
use Rattle.proto_wire.specs.Reading.{field_at, wire_fields}
use Rattle.proto_wire.proofs.ItemFacts.{ends_well, ends_in_fault}
use Rattle.proto_wire.proofs.FieldExact.{fields_exact}
use Rattle.proto_wire.proofs.fields.Fields.new.Goals as goal

pub returns-clause-fields : goal.returns-clause-fields
returns-clause-fields c = ends_well field_at IsFieldOf IsFieldFault fields_exact c.args.bytes.now (wire_fields c.args.bytes.now) refl

pub returns-clause-fault : goal.returns-clause-fault
returns-clause-fault c = ends_in_fault field_at IsFieldOf IsFieldFault fields_exact c.args.bytes.now (wire_fields c.args.bytes.now) refl
