use Rattle.std.proofs.Common.{◌≡◌, ◌++◌, take}
use Rattle.std.specs.List.{flat_map}
use Rattle.update_run.specs.Printed.{list_line}
use Rattle.update_run.proofs.running.push_lists.Given as goal

-- the lines so far
abbrev pub invariant-loop-held : goal.invariant-loop-held
invariant-loop-held l = l.page ≡ l.initial.page ++ flat_map list_line (take l.held-index l.lists)
