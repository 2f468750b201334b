use Rattle.std.proofs.Common.{arith, subst, sym, take}
use Rattle.list_versions.specs.Folding.{after_changes, IsFoldable}
use Rattle.list_versions.proofs.Folds.{held_next, placed_next, placed_nothing}
use Rattle.list_versions.proofs.refreshing.live_after.Goals as goal

pub loop-i-init : goal.loop-i-init
loop-i-init c = record { held = c.new-live.ensures.holds; placed = placed_nothing c.args.list c.new-live.result c.new-live.ensures.placed }

pub loop-i-preserved : goal.loop-i-preserved
loop-i-preserved c =
    let changes = c.args.changes.now in
    let i = c.loop-i.i in
    let item = c.index-changes-i.result in
    let foldable : IsFoldable item = subst IsFoldable (sym c.index-changes-i.is) (c.requires.changes i item c.loop-i-test.true) in
    record {
      held = held_next c.args.list changes i item c.apply_if.new.live c.loop-i-test.true c.index-changes-i.is
          (c.in_ok-apply_if.ensures.held (after_changes c.args.list (take i changes)) (c.requires.small.small i) foldable.few c.loop-i.invariant.held);
      placed = placed_next c.args.list changes i item c.loop-i.live c.apply_if.new.live _ c.loop-i-test.true c.index-changes-i.is c.requires.few_changes c.requires.few_lines (omega arith)
          c.in_ok-apply_if.ensures.placed c.loop-i.invariant.placed;
    }
