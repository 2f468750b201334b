use Rattle.std.proofs.Common.{◌≡◌, ◌++◌, drop}
use Rattle.update_client.specs.Step.{after_updates, results_of}
use Rattle.update_client.specs.Applying.{all_changed}
use Rattle.update_client.proofs.applying.apply_updates.Given as goal

abbrev pub invariant-loop-update : goal.invariant-loop-update
invariant-loop-update l = record {
  lists : after_updates (all_changed l.lists l.changes) (drop l.update-index l.updates) ≡ after_updates (all_changed l.lists l.fn.changes) l.updates;
  results : l.results ++ results_of (all_changed l.lists l.changes) (drop l.update-index l.updates) ≡ results_of (all_changed l.lists l.fn.changes) l.updates;
}
