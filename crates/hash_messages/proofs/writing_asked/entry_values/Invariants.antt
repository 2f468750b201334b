use Rattle.std.proofs.Common.{◌≡◌, take, map}
use Rattle.serde_json.specs.View.{view}
use Rattle.hash_messages.specs.Writing as spec
use Rattle.hash_messages.proofs.writing_asked.entry_values.Given as goal

abbrev pub invariant-loop-entry : goal.invariant-loop-entry
invariant-loop-entry l = map view l.values.items ≡ map spec.entry_written (take l.entry-index l.entries)
