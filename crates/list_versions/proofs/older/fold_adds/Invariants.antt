use Rattle.std.proofs.Common.{◌≡◌, ◌+◌, List, take, fold}
use Rattle.sb_model.specs.declared.history.Added.{Added}
use Rattle.sb_model.specs.History.{with_added}
use Rattle.list_versions.specs.HashSizes.{IsMapOf}
use Rattle.list_versions.proofs.older.fold_adds.Given as goal

abbrev pub invariant-loop-added : goal.invariant-loop-added
invariant-loop-added g l = record {
  map : (entries : List Added) → IsMapOf l.initial.folding entries → IsMapOf l.folding (fold with_added entries (take l.added-index l.adds));
  steps : l.steps ≡ l.initial.steps + l.added-index;
}
