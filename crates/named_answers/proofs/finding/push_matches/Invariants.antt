use Rattle.std.proofs.Common.{◌≡◌, ◌++◌, take}
use Rattle.named_answers.specs.Naming.{matches_of_list}
use Rattle.named_answers.proofs.finding.push_matches.Given as goal

abbrev pub invariant-loop-one : goal.invariant-loop-one
invariant-loop-one l = l.matches ≡ l.initial.matches ++ matches_of_list (take l.one-index l.found) l.name l.list
