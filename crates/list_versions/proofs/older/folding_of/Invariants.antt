use Rattle.std.proofs.Common.{[], take, fold}
use Rattle.sb_model.specs.History.{with_added}
use Rattle.list_versions.specs.HashSizes.{IsMapOf}
use Rattle.list_versions.proofs.older.folding_of.Given as goal

abbrev pub invariant-loop-entry : goal.invariant-loop-entry
invariant-loop-entry l = IsMapOf l.folding (fold with_added [] (take l.entry-index l.entries))
