use Rattle.std.proofs.Common.{◌<◌, ◌≤◌, arith, take, fold, length, [], ap, sym, ◌∙◌}
use Rattle.sb_model.specs.declared.history.Added.{Added}
use Rattle.std.proofs.lemmas.List.Sums.{fold_more}
use Rattle.std.proofs.lemmas.Grind.{common_steps}
use Rattle.sb_model.specs.History.{with_added}
use Rattle.list_versions.specs.Ends.{lengthened, restored}
use Rattle.list_versions.proofs.Ended.{length-added, restored_added}
use Rattle.list_versions.proofs.Holding.{length-fold_added}
use Rattle.list_versions.proofs.live.Live.add_each.Goals as goal

pub loop-added-preserved : goal.loop-added-preserved
loop-added-preserved c =
    let front : length (take c.loop-added.added-index c.args.adds.now) ≤ length c.args.adds.now = grind (arith, common_steps) in
    let d : Added = record { hash = []; size = 0 } in
    record {
      held = λ entries small adds_small h.
          let step = c.in_ok-add.ensures.held (fold with_added entries (take c.loop-added.added-index c.args.adds.now))
          (omega (arith, front, length-fold_added (take c.loop-added.added-index c.args.adds.now) entries)) (c.loop-added.invariant.held entries small adds_small h) in
          rw (fold_more with_added entries c.args.adds.now c.loop-added.added-index d c.loop-added-test.true) step;
      placed = λ lines few h.
          let before : length (take c.loop-added.added-index c.args.adds.now) < length c.args.adds.now = grind (arith, common_steps) in
          let step = c.in_ok-add.ensures.placed (fold (lengthened c.args.version) lines (take c.loop-added.added-index c.args.adds.now))
          (omega (arith, before, few, length-added c.args.version (take c.loop-added.added-index c.args.adds.now) lines)) (c.loop-added.invariant.placed lines few h) in
          rw (fold_more (lengthened c.args.version) lines c.args.adds.now c.loop-added.added-index d c.loop-added-test.true) step;
    }

pub returns-in_err-add-clause-kept : goal.returns-in_err-add-clause-kept
returns-in_err-add-clause-kept c lines placed few earlier count lt within =
    let front = take c.loop-added.added-index c.args.adds.now in
    let before : length front < length c.args.adds.now = grind (arith, common_steps) in
    let so_far = fold (lengthened c.args.version) lines front in
    let now = c.loop-added.invariant.placed lines few placed in
    c.add.ensures.kept so_far now (omega (arith, before, few, length-added c.args.version front lines)) earlier count lt (omega (arith, within, length-added c.args.version front lines))
    ∙ ap (restored earlier count) now.ends ∙ restored_added earlier c.args.version count front lines lt c.requires.version within ∙ ap (restored earlier count) (sym placed.ends)

pub returns-clause-kept : goal.returns-clause-kept
returns-clause-kept c lines placed few earlier count lt within =
    let front = take c.loop-added.added-index c.args.adds.now in
    let now = c.loop-added.invariant.placed lines few placed in
    ap (restored earlier count) now.ends ∙ restored_added earlier c.args.version count front lines lt c.requires.version within ∙ ap (restored earlier count) (sym placed.ends)
