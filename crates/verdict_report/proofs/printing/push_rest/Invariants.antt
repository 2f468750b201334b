use Rattle.std.proofs.Common.{◌≡◌, ◌++◌, drop, length, take}
use Rattle.std.specs.List.{flat_map}
use Rattle.verdict_report.specs.Printed.{next_text}
use Rattle.verdict_report.proofs.printing.push_rest.Given as goal

-- the names so far, and those that are left, are all names, and stand behind what there was
abbrev pub invariant-loop-name : goal.invariant-loop-name
invariant-loop-name l =
    (l.page ++ flat_map next_text (drop l.name-index l.names) ≡ l.initial.page ++ flat_map next_text l.names)
    × (take (length l.initial.page) l.page ≡ l.initial.page)
