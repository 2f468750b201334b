use Rattle.std.proofs.Common.{◌≡◌, take, map}
use Rattle.serde_json.specs.View.{view}
use Rattle.hash_messages.specs.Writing as spec
use Rattle.hash_messages.proofs.writing_asked.platform_values.Given as goal

abbrev pub invariant-loop-platform : goal.invariant-loop-platform
invariant-loop-platform l = map view l.values.items ≡ map spec.platform_written (take l.platform-index l.platforms)
