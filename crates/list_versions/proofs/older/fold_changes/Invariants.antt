use Rattle.std.proofs.Common.{◌+◌, ◌≤◌, List, take, fold}
use Rattle.sb_model.specs.declared.history.Added.{Added}
use Rattle.sb_model.specs.History.{after_change}
use Rattle.list_versions.specs.HashSizes.{IsMapOf}
use Rattle.list_versions.specs.Limits.{hash_lines}
use Rattle.list_versions.proofs.older.fold_changes.Given as goal

abbrev pub invariant-loop-change : goal.invariant-loop-change
invariant-loop-change g l = record {
  map : (entries : List Added) → IsMapOf l.initial.folding entries → IsMapOf l.folding (fold (after_change l.list) entries (take l.change-index l.changes));
  few : l.steps ≤ l.initial.steps + hash_lines (take l.change-index l.changes);
  counted : l.initial.steps ≤ l.steps;
}
