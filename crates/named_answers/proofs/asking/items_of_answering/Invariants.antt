use Rattle.std.proofs.Common.{◌≡◌, take}
use Rattle.std.specs.List.{filter_map}
use Rattle.named_answers.specs.Naming.{item_of_answering}
use Rattle.named_answers.proofs.asking.items_of_answering.Given as goal

abbrev pub invariant-loop-asked : goal.invariant-loop-asked
invariant-loop-asked l = l.found ≡ filter_map (item_of_answering l.history.versions) (take l.asked-index l.items)
