use Rattle.std.proofs.Common.{take, map}
use Rattle.sb_model.specs.History.{prefix_of}
use Rattle.list_versions.specs.Shifting.{AreGoing}
use Rattle.list_versions.proofs.shifting.places_of.Given as goal

abbrev pub invariant-loop-entry : goal.invariant-loop-entry
invariant-loop-entry l = AreGoing l.set l.live.buckets.entries l.count (map prefix_of (take l.entry-index l.leaving)) l.places.items
