use Rattle.std.proofs.Common.{◌≡◌, ◌-◌, ◌^◌, take}
use Rattle.std.specs.Prelude.{min, sum_by}
use Rattle.delta_server.specs.Walk.{hash_lines_in}
use Rattle.delta_server.proofs.targets.lines_of.Given as goal

abbrev pub invariant-loop-change : goal.invariant-loop-change
invariant-loop-change l = l.lines ≡ min (sum_by (hash_lines_in l.list) (take l.change-index l.changes)) (2 ^ 64 - 1)
