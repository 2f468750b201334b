use Rattle.std.proofs.Common.{◌≡◌, ◌++◌, map}
use Rattle.list_versions.specs.HashSizes.{entry_at}
use Rattle.list_versions.proofs.listing.entries_in.Given as goal

abbrev pub invariant-hashes : goal.invariant-hashes
invariant-hashes l = l.entries.items ++ map entry_at l.key-iterator ≡ map entry_at l.fn.sizes.entries
