use Rattle.std.proofs.Common.{◌≡◌, ◌++◌, drop}
use Rattle.std.specs.List.{flat_map}
use Rattle.journal_run.specs.Checked.{list_status}
use Rattle.journal_run.proofs.checked.push_each_status.Given as goal

-- the lines so far, and those of the lists that are left, are all lines
abbrev pub invariant-loop-list : goal.invariant-loop-list
invariant-loop-list l =
    l.page ++ flat_map (list_status l.history.versions) (drop l.list-index l.lists) ≡ l.initial.page ++ flat_map (list_status l.history.versions) l.lists
