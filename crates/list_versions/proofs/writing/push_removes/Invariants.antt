use Rattle.std.proofs.Common.{◌≡◌, ◌++◌, drop, length, take}
use Rattle.std.specs.List.{flat_map}
use Rattle.list_versions.specs.Written.{remove_line}
use Rattle.list_versions.proofs.writing.push_removes.Given as goal

-- the lines so far, and those that are left, are all lines, and stand behind what there was
abbrev pub invariant-loop-hash : goal.invariant-loop-hash
invariant-loop-hash l =
    (l.page ++ flat_map remove_line (drop l.hash-index l.removes) ≡ l.initial.page ++ flat_map remove_line l.removes)
    × (take (length l.initial.page) l.page ≡ l.initial.page)
