use Rattle.std.proofs.Common.{◌≡◌, ◌++◌, map, take, drop}
use Rattle.list_versions.specs.Ends.{restored_end}
use Rattle.list_versions.proofs.ends.restore.Given as goal

abbrev pub invariant-loop-end : goal.invariant-loop-end
invariant-loop-end l = l.end-items ≡ map (restored_end l.version) (take l.end-index l.initial.end-items) ++ drop l.end-index l.initial.end-items
