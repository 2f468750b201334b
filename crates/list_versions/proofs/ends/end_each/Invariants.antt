use Rattle.std.proofs.Common.{◌≡◌, take}
use Rattle.std.specs.List.{filter}
use Rattle.list_versions.specs.Ends.{ended_at, is_of}
use Rattle.list_versions.proofs.ends.end_each.Given as goal

abbrev pub invariant-loop-line : goal.invariant-loop-line
invariant-loop-line l = l.ends.items ≡ ended_at l.version l.initial.ends.items (filter (is_of l.hash) (take l.line-index l.lines))
