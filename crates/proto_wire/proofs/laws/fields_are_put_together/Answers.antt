use Rattle.std.proofs.Common.{[]}
use Rattle.proto_wire.specs.Wire.{IsFieldOf}
use Rattle.proto_wire.proofs.ItemFacts.{items_joined}
use Rattle.proto_wire.proofs.WrittenFacts.{opened}
use Rattle.proto_wire.proofs.laws.fields_are_put_together.Goals as goal

pub returns : goal.returns
returns c = record {
  opened = opened;
  joined = λ text more fields others b later. items_joined IsFieldOf text more [] fields others b later;
}
