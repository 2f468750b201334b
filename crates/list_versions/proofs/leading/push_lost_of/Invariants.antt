use Rattle.std.proofs.Common.{◌≡◌, ◌++◌, map, take}
use Rattle.sb_model.specs.Difference.{added_members}
use Rattle.list_versions.specs.Live.{shown}
use Rattle.list_versions.proofs.leading.push_lost_of.Given as goal

abbrev pub invariant-loop-entry : goal.invariant-loop-entry
invariant-loop-entry l = l.lost.items ≡ l.initial.lost.items ++ added_members l.newest (map shown (take l.entry-index l.went))
