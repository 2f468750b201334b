use Rattle.std.proofs.Common.{◌≡◌, map, take}
use Rattle.list_versions.specs.Leading.{gained_of}
use Rattle.list_versions.specs.Live.{shown}
use Rattle.list_versions.proofs.leading.gained_by.Given as goal

abbrev pub invariant-loop-entry : goal.invariant-loop-entry
invariant-loop-entry l = l.gained.items ≡ gained_of l.live.buckets.entries l.count l.gone (map shown (take l.entry-index l.came))
