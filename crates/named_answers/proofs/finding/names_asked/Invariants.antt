use Rattle.std.proofs.Common.{◌≡◌, filter, take}
use Rattle.hash_messages.specs.Matches.{asks_list}
use Rattle.named_answers.proofs.finding.names_asked.Given as goal

abbrev pub invariant-loop-name : goal.invariant-loop-name
invariant-loop-name l = l.names ≡ filter (asks_list l.request) (take l.name-index l.name-items)
