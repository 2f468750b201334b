use Rattle.std.proofs.Common.{◌≡◌, ◌++◌, map}
use Rattle.std.specs.Map.{values_of}
use Rattle.list_versions.specs.Live.{shown, in_buckets}
use Rattle.list_versions.proofs.published.all_prefixes.Given as goal

abbrev pub invariant-buckets : goal.invariant-buckets
invariant-buckets l = l.prefixes.items ++ map shown (in_buckets l.bucket-iterator) ≡ map shown (in_buckets (values_of l.live.buckets.entries))
