use Rattle.std.proofs.Common.{◌≡◌, ◌-◌}
use Rattle.std.specs.Prelude.{All}
use Rattle.update_messages.specs.Messages.{IsAddition}
use Rattle.set_updates.proofs.SetFacts.{sets_up_to}
use Rattle.set_updates.proofs.sets.whole_sets.Given as goal

abbrev pub invariant-loop-size : goal.invariant-loop-size
invariant-loop-size l = (l.sets ≡ sets_up_to l.rice l.set (l.size - 4)) × All IsAddition l.sets
