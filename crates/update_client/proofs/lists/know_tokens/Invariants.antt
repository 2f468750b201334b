use Rattle.std.proofs.Common.{take}
use Rattle.std.specs.Prelude.{All}
use Rattle.update_client.specs.Held.{IsHeldList}
use Rattle.update_client.proofs.lists.know_tokens.Given as goal

abbrev pub invariant-loop-held : goal.invariant-loop-held
invariant-loop-held l = All IsHeldList (take l.held-index l.lists)
