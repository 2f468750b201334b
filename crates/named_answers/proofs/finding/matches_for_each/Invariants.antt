use Rattle.std.proofs.Common.{◌≡◌, flat_map, take}
use Rattle.named_answers.specs.Naming.{matches_under}
use Rattle.named_answers.proofs.finding.matches_for_each.Given as goal

abbrev pub invariant-loop-name : goal.invariant-loop-name
invariant-loop-name l = l.matches ≡ flat_map (matches_under l.history.versions l.found) (take l.name-index l.names)
