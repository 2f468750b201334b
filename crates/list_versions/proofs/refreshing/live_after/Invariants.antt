use Rattle.std.proofs.Common.{take}
use Rattle.list_versions.specs.Folding.{after_changes}
use Rattle.list_versions.specs.Live.{Holds, HasPlaced}
use Rattle.list_versions.proofs.refreshing.live_after.Given as goal

abbrev pub invariant-loop-i : goal.invariant-loop-i
invariant-loop-i l = record {
  held : Holds l.live (after_changes l.list (take l.i l.changes));
  placed : HasPlaced l.list (take l.i l.changes) l.live;
}
