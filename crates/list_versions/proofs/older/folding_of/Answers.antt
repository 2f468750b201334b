use Rattle.std.proofs.Common.{[], take, fold}
use Rattle.std.proofs.lemmas.List.Sums.{fold_more}
use Rattle.sb_model.specs.declared.history.Added.{Added}
use Rattle.sb_model.specs.History.{with_added}
use Rattle.list_versions.proofs.Mapped.{mapped_with}
use Rattle.list_versions.proofs.older.folding_of.Goals as goal

pub loop-entry-preserved : goal.loop-entry-preserved
loop-entry-preserved c =
    let d : Added = record { hash = []; size = 0 } in
    rw (fold_more with_added [] c.args.entries.now c.loop-entry.entry-index d c.loop-entry-test.true)
    (mapped_with c.loop-entry.folding c.put.new.self (fold with_added [] (take c.loop-entry.entry-index c.args.entries.now)) _ c.in_ok-put.ensures.ok c.loop-entry.invariant)
