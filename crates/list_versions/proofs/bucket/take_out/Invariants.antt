use Rattle.std.proofs.Common.{◌≡◌, ◌+◌, ◌^◌, ◌<◌, ◌≤◌, length}
use Rattle.list_versions.specs.Buckets.{added_of}
use Rattle.list_versions.specs.Limits.{prefix_bytes}
use Rattle.list_versions.proofs.TakingOut.{left_at}
use Rattle.list_versions.proofs.bucket.take_out.Given as goal

abbrev pub invariant-back : goal.invariant-back
invariant-back l = record {
  left : l.entries.items ≡ left_at l.initial.entries.items l.hash l.i;
  within : l.i ≤ length l.initial.entries.items;
  more : l.i ≤ length l.entries.items;
  hashes : length l.entries.items + l.hashes ≡ length l.initial.entries.items;
  bytes : prefix_bytes (added_of l.initial.entries.items) < 2 ^ 64 → prefix_bytes (added_of l.entries.items) + l.bytes ≡ prefix_bytes (added_of l.initial.entries.items);
}

abbrev pub decreases-back : goal.decreases-back
decreases-back l = l.i
