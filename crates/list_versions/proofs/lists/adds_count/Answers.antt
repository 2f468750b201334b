use Rattle.std.proofs.Common.{◌∙◌, sym, arith, true, false}
use Rattle.list_versions.proofs.Versions.{count_step}
use Rattle.list_versions.proofs.lists.adds_count.Goals as goal
use Rattle.list_versions.proofs.lists.adds_count.Goals.{then-same, else-same}

pub loop-change-preserved : goal.loop-change-preserved
loop-change-preserved c = elim c.if-same.branch [
  | then-same w ↦ (
      let next = count_step c.args.list c.args.changes.now c.loop-change.change-index c.change-item.result true c.loop-change-test.true c.change-item.is (sym c.same.ensures ∙ w.if-same.true) in
      omega (arith, w.count-is, w.saturating_add-count.ensures, w.len.ensures, c.loop-change.invariant, next))
  | else-same w ↦ (
      let next = count_step c.args.list c.args.changes.now c.loop-change.change-index c.change-item.result false c.loop-change-test.true c.change-item.is (sym c.same.ensures ∙ w.if-same.false) in
      omega (arith, w.count-is, c.loop-change.invariant, next))
]
