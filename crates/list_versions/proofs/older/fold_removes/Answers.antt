use Rattle.std.proofs.Common.{arith, take, fold, []}
use Rattle.std.proofs.lemmas.List.Sums.{fold_more}
use Rattle.sb_model.specs.History.{without_hash}
use Rattle.list_versions.proofs.Mapped.{mapped_without}
use Rattle.list_versions.proofs.older.fold_removes.Goals as goal

pub loop-hash-preserved : goal.loop-hash-preserved
loop-hash-preserved g c = record {
  map = λ entries h. rw (fold_more without_hash entries c.args.removes.now c.loop-hash.hash-index [] c.loop-hash-test.true) (
      mapped_without c.loop-hash.folding c.line.new.self (fold without_hash entries (take c.loop-hash.hash-index c.args.removes.now)) _ c.in_ok-line.ensures.ok (c.loop-hash.invariant.map entries h));
  steps = omega (arith, c.in_ok-line.ensures.steps, c.loop-hash.invariant.steps);
}
