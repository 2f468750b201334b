use Rattle.std.proofs.Common.{◌≡◌, take, map}
use Rattle.serde_json.specs.View.{view}
use Rattle.hash_messages.specs.Writing as spec
use Rattle.hash_messages.proofs.writing_asked.threat_values.Given as goal

abbrev pub invariant-loop-threat : goal.invariant-loop-threat
invariant-loop-threat l = map view l.values.items ≡ map spec.threat_written (take l.threat-index l.threats)
