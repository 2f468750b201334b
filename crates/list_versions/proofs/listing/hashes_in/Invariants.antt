use Rattle.std.proofs.Common.{◌≡◌, map, take}
use Rattle.sb_model.specs.declared.history.Added.{Added}
use Rattle.list_versions.proofs.listing.hashes_in.Given as goal

abbrev pub invariant-loop-entry : goal.invariant-loop-entry
invariant-loop-entry l = l.hashes.items ≡ map (λ (entry : Added). entry.hash) (take l.entry-index l.entries)
