use Rattle.std.proofs.Common.{◌≡◌, map, take}
use Rattle.update_client.specs.Held.{nothing_held}
use Rattle.update_client.proofs.lists.empty_lists.Given as goal

abbrev pub invariant-loop-name : goal.invariant-loop-name
invariant-loop-name l = l.lists.items ≡ map nothing_held (take l.name-index l.names)
