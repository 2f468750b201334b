use Rattle.std.proofs.Common.{◌∙◌, ap, sym, ◌++◌, [], ◌∷◌}
use Rattle.prefix_set.proofs.DifferenceFacts.{removed_more_found, removed_more_missed, missed_from_test}
use Rattle.prefix_set.proofs.MergeFacts.{passed_before, apart_more}
use Rattle.prefix_set.proofs.difference.places_removed.Goals as goal
use Rattle.prefix_set.proofs.difference.places_removed.Goals.{then-not-is_found+in_ok-push, else-not-is_found}

pub seek-place-requires-clause-passed : goal.seek-place-requires-clause-passed
seek-place-requires-clause-passed c = passed_before _ c.args.old.now c.loop-i.i c.at.result.now c.loop-i.invariant.passed c.at.ensures.value

pub loop-i-preserved : goal.loop-i-preserved
loop-i-preserved c = record {
  within = c.seek-place.ensures.place.within;
  passed = apart_more c.args.newer.now c.args.old.now c.loop-i.i c.seek-place.result.index c.seek-place.result.past c.at.result.now c.requires.old
      c.at.ensures.value c.seek-place.ensures.place;
  removed = elim c.if-not-is_found.branch [
    | then-not-is_found+in_ok-push w ↦
        w.places-is ∙ w.in_ok-push.ensures.ok ∙ ap (λ places. places ++ c.loop-i.i ∷ []) c.loop-i.invariant.removed
        ∙ sym (removed_more_missed c.args.old.now c.args.newer.now c.loop-i.i c.seek-place.result.index c.seek-place.result.past c.at.result.now c.at.ensures.value
        c.seek-place.ensures.place (missed_from_test c.is_found.result _ _ c.is_found.ensures w.if-not-is_found.true))
    | else-not-is_found w ↦
        w.places-is ∙ c.loop-i.invariant.removed
        ∙ sym (removed_more_found c.args.old.now c.args.newer.now c.loop-i.i c.seek-place.result.index c.seek-place.result.past c.at.result.now c.at.ensures.value
        c.seek-place.ensures.place (c.is_found.ensures.0 w.if-not-is_found.false))
  ];
}
