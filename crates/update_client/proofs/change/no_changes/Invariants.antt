use Rattle.std.proofs.Common.{◌≡◌, map, take}
use Rattle.update_client.specs.Applying.{no_change}
use Rattle.update_client.proofs.change.no_changes.Given as goal

abbrev pub invariant-loop-held : goal.invariant-loop-held
invariant-loop-held l = l.changes.items ≡ map no_change (take l.held-index l.lists)
