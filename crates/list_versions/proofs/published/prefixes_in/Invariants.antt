use Rattle.std.proofs.Common.{◌≡◌, map, take}
use Rattle.list_versions.specs.Live.{shown}
use Rattle.list_versions.proofs.published.prefixes_in.Given as goal

abbrev pub invariant-loop-entry : goal.invariant-loop-entry
invariant-loop-entry l = l.prefixes.items ≡ map shown (take l.entry-index l.entries)
