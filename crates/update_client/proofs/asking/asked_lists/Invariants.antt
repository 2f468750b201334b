use Rattle.std.proofs.Common.{◌≡◌, map, take}
use Rattle.update_client.specs.Asked.{asked_list}
use Rattle.update_client.proofs.asking.asked_lists.Given as goal

abbrev pub invariant-loop-held : goal.invariant-loop-held
invariant-loop-held l = l.items ≡ map (asked_list l.options) (take l.held-index l.lists)
