use Rattle.std.proofs.Common.{arith, take, fold, []}
use Rattle.std.proofs.lemmas.List.Sums.{fold_more}
use Rattle.sb_model.specs.declared.history.Added.{Added}
use Rattle.sb_model.specs.History.{with_added}
use Rattle.list_versions.proofs.Mapped.{mapped_with}
use Rattle.list_versions.proofs.older.fold_adds.Goals as goal

pub loop-added-preserved : goal.loop-added-preserved
loop-added-preserved g c = record {
  map = λ entries h.
      let d : Added = record { hash = []; size = 0 } in
      rw (fold_more with_added entries c.args.adds.now c.loop-added.added-index d c.loop-added-test.true) (
      mapped_with c.loop-added.folding c.line.new.self (fold with_added entries (take c.loop-added.added-index c.args.adds.now)) _ c.in_ok-line.ensures.ok (c.loop-added.invariant.map entries h));
  steps = omega (arith, c.in_ok-line.ensures.steps, c.loop-added.invariant.steps);
}
