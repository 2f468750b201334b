use Rattle.std.proofs.Common.{◌≡◌}
use Rattle.sb_model.specs.Prefixes.{concatenation}
use Rattle.set_updates.proofs.SetFacts.{of_size}
use Rattle.set_updates.proofs.sets.bytes_of_size.Given as goal

abbrev pub invariant-loop-member : goal.invariant-loop-member
invariant-loop-member l = l.bytes ≡ concatenation (of_size l.size l.members l.member-index)
