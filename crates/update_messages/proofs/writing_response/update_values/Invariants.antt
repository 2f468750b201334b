use Rattle.std.proofs.Common.{◌≡◌, take, map, All}
use Rattle.serde_json.specs.View.{view}
use Rattle.update_messages.specs.Ranges.{IsUpdateInRange}
use Rattle.update_messages.specs.Writing as spec
use Rattle.update_messages.proofs.writing_response.update_values.Given as goal

abbrev pub invariant-loop-update : goal.invariant-loop-update
invariant-loop-update l = record {
  values : map view l.values.items ≡ map spec.update_written (take l.update-index l.updates);
  range : All IsUpdateInRange (take l.update-index l.updates);
}
