use Rattle.std.proofs.Common.{◌≡◌, ◌≤◌, vec_len}
use Rattle.update_client.specs.Applying.{all_changed}
use Rattle.update_client.proofs.change.put_changes.Given as goal

abbrev pub invariant-loop-change : goal.invariant-loop-change
invariant-loop-change l = record {
  left : all_changed l.lists.items l.changes.items ≡ all_changed l.fn.lists.items l.fn.changes.items;
  within : vec_len l.changes ≤ vec_len l.lists;
}

abbrev pub decreases-loop-change : goal.decreases-loop-change
decreases-loop-change l = vec_len l.changes
