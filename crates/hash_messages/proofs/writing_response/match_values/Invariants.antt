use Rattle.std.proofs.Common.{◌≡◌, take, map, All}
use Rattle.serde_json.specs.View.{view}
use Rattle.hash_messages.specs.Ranges.{IsMatchInRange}
use Rattle.hash_messages.specs.Writing as spec
use Rattle.hash_messages.proofs.writing_response.match_values.Given as goal

abbrev pub invariant-loop-found : goal.invariant-loop-found
invariant-loop-found l = record {
  values : map view l.values.items ≡ map spec.match_written (take l.found-index l.matches);
  range : All IsMatchInRange (take l.found-index l.matches);
}
