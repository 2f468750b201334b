use Rattle.std.proofs.Common.{◌≡◌, take}
use Rattle.list_versions.proofs.leading.row_of.Given as goal

abbrev pub invariant-loop-i : goal.invariant-loop-i
invariant-loop-i l = l.row ≡ take l.i l.set
