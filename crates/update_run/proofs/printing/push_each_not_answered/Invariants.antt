use Rattle.std.proofs.Common.{◌≡◌, ◌++◌, take}
use Rattle.std.specs.Prelude.{Ok}
use Rattle.update_run.specs.Printed.{not_answered, not_answered_lines}
use Rattle.update_run.proofs.printing.push_each_not_answered.Given as goal

-- the lines of the lists so far
abbrev pub invariant-loop-held : goal.invariant-loop-held
invariant-loop-held l = l.page ≡ l.initial.page ++ not_answered_lines l.number (not_answered (take l.held-index l.lists) (Ok l.taken))
