use Rattle.std.proofs.Common.{◌+◌, arith, take, fold, ap, subst, length}
use Rattle.std.proofs.lemmas.List.Sums.{fold_more, sum_by_more}
use Rattle.sb_model.specs.declared.history.Change.{Change}
use Rattle.sb_model.specs.History.{after_change}
use Rattle.list_versions.specs.HashSizes.{IsMapOf}
use Rattle.list_versions.proofs.older.fold_changes.Goals as goal

pub loop-change-preserved : goal.loop-change-preserved
loop-change-preserved g c =
    let lines = sum_by_more (λ (change : Change). length change.adds + length change.removes) c.args.changes.now c.loop-change.change-index c.change-item.result c.loop-change-test.true in
    let is = ap (λ (change : Change). length change.adds + length change.removes) c.change-item.is in
    record {
      map = λ entries h.
          let step = c.in_ok-fold_change.ensures.map (fold (after_change c.args.list) entries (take c.loop-change.change-index c.args.changes.now)) (c.loop-change.invariant.map entries h) in
          let here = subst (λ (change : Change). IsMapOf c.fold_change.new.folding (after_change c.args.list (fold (after_change c.args.list) entries (take c.loop-change.change-index c.args.changes.now)) change)) c.change-item.is step in
          rw (fold_more (after_change c.args.list) entries c.args.changes.now c.loop-change.change-index c.change-item.result c.loop-change-test.true) here;
      few = omega (arith, lines, is, c.in_ok-fold_change.ensures.few, c.loop-change.invariant.few);
      counted = omega (arith, c.in_ok-fold_change.ensures.counted, c.loop-change.invariant.counted);
    }
