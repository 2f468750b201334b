use Rattle.std.proofs.Common.{◌≡◌, take, map, All}
use Rattle.serde_json.specs.View.{view}
use Rattle.base64.specs.GeneralPurpose.{IsBytes}
use Rattle.hash_messages.specs.Writing as spec
use Rattle.hash_messages.proofs.writing_asked.state_values.Given as goal

abbrev pub invariant-loop-state : goal.invariant-loop-state
invariant-loop-state l = record {
  values : map view l.values.items ≡ map spec.state_written (take l.state-index l.states);
  range : All IsBytes (take l.state-index l.states);
}
