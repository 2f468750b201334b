use Rattle.std.proofs.Common.{◌≡◌, ◌++◌, map, take}
use Rattle.list_versions.specs.Buckets.{added_of}
use Rattle.list_versions.specs.Live.{shown}
use Rattle.list_versions.proofs.published.push_prefixes.Given as goal

abbrev pub invariant-loop-line : goal.invariant-loop-line
invariant-loop-line l = l.prefixes.items ≡ l.initial.prefixes.items ++ map shown (added_of (take l.line-index l.bucket))
