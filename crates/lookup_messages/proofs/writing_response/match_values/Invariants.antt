use Rattle.std.proofs.Common.{◌≡◌, take, map, All}
use Rattle.serde_json.specs.View.{view}
use Rattle.lookup_messages.specs.Ranges.{IsLookupMatchInRange}
use Rattle.lookup_messages.specs.Writing as spec
use Rattle.lookup_messages.proofs.writing_response.match_values.Given as goal

abbrev pub invariant-loop-found : goal.invariant-loop-found
invariant-loop-found l = record {
  values : map view l.values.items ≡ map spec.lookup_match_written (take l.found-index l.matches);
  range : All IsLookupMatchInRange (take l.found-index l.matches);
}
