use Rattle.std.proofs.Common.{◌≡◌, take}
use Rattle.update_client.proofs.lists.copies.Given as goal

abbrev pub invariant-loop-held : goal.invariant-loop-held
invariant-loop-held l = l.copies.items ≡ take l.held-index l.lists
