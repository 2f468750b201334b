use Rattle.std.proofs.Common.{◌≡◌, take, map, All}
use Rattle.serde_json.specs.View.{view}
use Rattle.update_messages.specs.Ranges.{IsAskedInRange}
use Rattle.update_messages.specs.Writing as spec
use Rattle.update_messages.proofs.writing_request.asked_values.Given as goal

abbrev pub invariant-loop-list : goal.invariant-loop-list
invariant-loop-list l = record {
  values : map view l.values.items ≡ map spec.asked_written (take l.list-index l.lists);
  range : All IsAskedInRange (take l.list-index l.lists);
}
