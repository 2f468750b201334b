use Rattle.std.proofs.Common.{◌≡◌, take}
use Rattle.update_client.specs.Held.{tokens_of}
use Rattle.update_client.proofs.lists.ClientLists.states.Given as goal

abbrev pub invariant-loop-held : goal.invariant-loop-held
invariant-loop-held l = l.states ≡ tokens_of (take l.held-index l.held-items)
