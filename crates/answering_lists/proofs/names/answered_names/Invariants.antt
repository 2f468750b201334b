use Rattle.std.proofs.Common.{◌≡◌, filter, take}
use Rattle.answering_lists.specs.Lists.{is_answered}
use Rattle.answering_lists.proofs.names.answered_names.Given as goal

abbrev pub invariant-loop-name : goal.invariant-loop-name
invariant-loop-name l = l.names ≡ filter (is_answered l.history.versions) (take l.name-index l.name-items)
