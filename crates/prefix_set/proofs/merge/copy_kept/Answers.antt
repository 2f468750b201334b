use Rattle.std.proofs.Common.{get_or, arith, refl}
use Rattle.prefix_set.proofs.KeptFacts.{kept_nothing, kept_run, kept_removed, done_more}
use Rattle.prefix_set.proofs.merge.copy_kept.Goals as goal
use Rattle.prefix_set.proofs.merge.copy_kept.Goals.{then-removal-start+in_ok-push_range, else-removal-start, then-loop-removed-test+else-removals-removed, else-loop-removed-test}

pub loop-removed-init : goal.loop-removed-init
loop-removed-init g c = record {
  from = omega arith;
  to = omega arith;
  done = c.requires.done;
  copied = kept_nothing c.args.out.now c.args.old.now c.args.removals.now c.args.done.place;
}

pub loop-removed-preserved : goal.loop-removed-preserved
loop-removed-preserved g c = elim c.if-removal-start.branch [
  | then-removal-start+in_ok-push_range w ↦ rw (w.out-is, w.start-is) (record {
    from = omega arith;
    to = omega arith;
    done = done_more c.args.removals.now c.loop-removed.removed c.loop-removed.start _ c.loop-removed.invariant.done c.loop-removed-test.true (omega arith) (omega arith);
    copied = kept_removed c.args.out.now c.loop-removed.out w.push_range.new.self c.args.old.now c.args.removals.now c.args.done.place c.loop-removed.start
        c.loop-removed.removed (get_or c.args.removals.now c.loop-removed.removed 0) c.requires.removals c.loop-removed.invariant.done c.loop-removed-test.true refl
        c.loop-removed.invariant.from (omega arith) (omega arith) c.loop-removed.invariant.copied w.in_ok-push_range.ensures;
  })
  | else-removal-start w ↦ rw (w.out-is, w.start-is) (record {
    from = omega arith;
    to = omega arith;
    done = done_more c.args.removals.now c.loop-removed.removed c.loop-removed.start _ c.loop-removed.invariant.done c.loop-removed-test.true (omega arith) w.if-removal-start.false;
    copied = c.loop-removed.invariant.copied;
  })
]

pub returns-clause-kept : goal.returns-clause-kept
returns-clause-kept g c =
    kept_run c.args.out.now c.loop-removed.out c.push_range-2.new.self c.args.old.now c.args.removals.now c.args.done.place c.loop-removed.start c.loop-removed.removed c.args.to
    c.requires.removals c.loop-removed.invariant.done (elim c.loop-removed-test.branch [
      | then-loop-removed-test+else-removals-removed w ↦ λ _. w.if-removals-removed.false
      | else-loop-removed-test w ↦ λ inside. absurd (omega arith)
    ]) c.loop-removed.invariant.from c.loop-removed.invariant.to c.requires.within c.loop-removed.invariant.copied c.in_ok-push_range-2.ensures
