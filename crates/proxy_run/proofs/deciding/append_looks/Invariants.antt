use Rattle.std.proofs.Common.{◌≡◌, ◌++◌}
use Rattle.proxy_run.proofs.deciding.append_looks.Given as goal

-- the looks so far were appended
abbrev pub invariant-loop-look : goal.invariant-loop-look
invariant-loop-look l = l.to ≡ l.initial.to ++ l.yielded
