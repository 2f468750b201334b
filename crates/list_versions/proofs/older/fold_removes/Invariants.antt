use Rattle.std.proofs.Common.{◌≡◌, ◌+◌, List, take, fold}
use Rattle.sb_model.specs.declared.history.Added.{Added}
use Rattle.sb_model.specs.History.{without_hash}
use Rattle.list_versions.specs.HashSizes.{IsMapOf}
use Rattle.list_versions.proofs.older.fold_removes.Given as goal

abbrev pub invariant-loop-hash : goal.invariant-loop-hash
invariant-loop-hash g l = record {
  map : (entries : List Added) → IsMapOf l.initial.folding entries → IsMapOf l.folding (fold without_hash entries (take l.hash-index l.removes));
  steps : l.steps ≡ l.initial.steps + l.hash-index;
}
