use Rattle.std.proofs.Common.{arith, take, fold, []}
use Rattle.std.proofs.lemmas.List.Sums.{fold_more}
use Rattle.sb_model.specs.History.{without_hash}
use Rattle.list_versions.specs.Ends.{ended}
use Rattle.list_versions.proofs.Holding.{length-fold_removed}
use Rattle.list_versions.proofs.live.Live.remove_each.Goals as goal

pub loop-hash-preserved : goal.loop-hash-preserved
loop-hash-preserved c = record {
  held = λ entries small h.
      let step = c.remove.ensures.held (fold without_hash entries (take c.loop-hash.hash-index c.args.removes.now))
      (omega (arith, length-fold_removed (take c.loop-hash.hash-index c.args.removes.now) entries)) (c.loop-hash.invariant.held entries small h) in
      rw (fold_more without_hash entries c.args.removes.now c.loop-hash.hash-index [] c.loop-hash-test.true) step;
  placed = λ lines h.
      let step = c.remove.ensures.placed (fold (ended c.args.version) lines (take c.loop-hash.hash-index c.args.removes.now)) (c.loop-hash.invariant.placed lines h) in
      rw (fold_more (ended c.args.version) lines c.args.removes.now c.loop-hash.hash-index [] c.loop-hash-test.true) step;
}
