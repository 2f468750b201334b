use Rattle.std.proofs.Common.{◌≡◌, ◌++◌, drop, length, take}
use Rattle.std.specs.List.{flat_map}
use Rattle.sb_round.specs.Printed.{update_line}
use Rattle.sb_round.proofs.round_lines.push_each_update.Given as goal

-- the lines so far, and those that are left, are all lines, and stand behind what there was
abbrev pub invariant-loop-item : goal.invariant-loop-item
invariant-loop-item l =
    (l.page ++ flat_map (update_line l.number) (drop l.item-index l.taken) ≡ l.initial.page ++ flat_map (update_line l.number) l.taken)
    × (take (length l.initial.page) l.page ≡ l.initial.page)
