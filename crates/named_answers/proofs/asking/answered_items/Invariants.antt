use Rattle.std.proofs.Common.{◌≡◌, take}
use Rattle.std.specs.List.{filter_map}
use Rattle.named_answers.specs.Naming.{name_if_answered}
use Rattle.named_answers.proofs.asking.answered_items.Given as goal

abbrev pub invariant-loop-asked : goal.invariant-loop-asked
invariant-loop-asked l = l.names ≡ filter_map (name_if_answered l.history.versions) (take l.asked-index l.items)
