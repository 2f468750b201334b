use Rattle.std.proofs.Common.{◌≡◌, take, map, All}
use Rattle.serde_json.specs.View.{view}
use Rattle.update_messages.specs.Ranges.{IsRemovalOfBytes}
use Rattle.update_messages.specs.Writing as spec
use Rattle.update_messages.proofs.writing_response.removal_values.Given as goal

abbrev pub invariant-loop-set : goal.invariant-loop-set
invariant-loop-set l = record {
  values : map view l.values.items ≡ map spec.removal_written (take l.set-index l.sets);
  range : All IsRemovalOfBytes (take l.set-index l.sets);
}
