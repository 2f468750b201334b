use Rattle.std.proofs.Common.{◌≡◌, min, length, take}
use Rattle.list_versions.specs.Ends.{adds_of, most_lines}
use Rattle.list_versions.proofs.lists.adds_count.Given as goal

abbrev pub invariant-loop-change : goal.invariant-loop-change
invariant-loop-change l = l.count ≡ min (length (adds_of l.list (take l.change-index l.changes))) most_lines
