use Rattle.std.proofs.Common.{◌≡◌, take, map, All}
use Rattle.serde_json.specs.View.{view}
use Rattle.hash_messages.specs.Ranges.{IsPrefix}
use Rattle.hash_messages.specs.Writing as spec
use Rattle.hash_messages.proofs.writing_asked.prefix_values.Given as goal

abbrev pub invariant-loop-prefix : goal.invariant-loop-prefix
invariant-loop-prefix l = record {
  values : map view l.values.items ≡ map spec.prefix_written (take l.prefix-index l.prefixes);
  range : All IsPrefix (take l.prefix-index l.prefixes);
}
