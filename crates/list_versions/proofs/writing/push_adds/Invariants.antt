use Rattle.std.proofs.Common.{◌≡◌, ◌++◌, drop, length, take}
use Rattle.std.specs.List.{flat_map}
use Rattle.list_versions.specs.Written.{add_line}
use Rattle.list_versions.proofs.writing.push_adds.Given as goal

-- the lines so far, and those that are left, are all lines, and stand behind what there was
abbrev pub invariant-loop-added : goal.invariant-loop-added
invariant-loop-added l =
    (l.page ++ flat_map (add_line l.sized) (drop l.added-index l.adds) ≡ l.initial.page ++ flat_map (add_line l.sized) l.adds)
    × (take (length l.initial.page) l.page ≡ l.initial.page)
