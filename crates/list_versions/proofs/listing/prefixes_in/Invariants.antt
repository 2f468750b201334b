use Rattle.std.proofs.Common.{◌≡◌, ◌++◌, map}
use Rattle.list_versions.specs.HashSizes.{shown_entry}
use Rattle.list_versions.proofs.listing.prefixes_in.Given as goal

abbrev pub invariant-hashes : goal.invariant-hashes
invariant-hashes l = l.prefixes.items ++ map shown_entry l.key-iterator ≡ map shown_entry l.fn.sizes.entries
