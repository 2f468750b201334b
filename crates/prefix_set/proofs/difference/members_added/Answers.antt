use Rattle.std.proofs.Common.{ℕ, ◌∙◌, ap, sym, List, ◌++◌, [], ◌∷◌, take}
use Rattle.sb_model.specs.Difference.{added_members}
use Rattle.prefix_set.proofs.DifferenceFacts.{added_more_found, added_more_missed, missed_from_test}
use Rattle.prefix_set.proofs.MergeFacts.{passed_before, apart_more}
use Rattle.prefix_set.proofs.difference.members_added.Goals as goal
use Rattle.prefix_set.proofs.difference.members_added.Goals.{then-not-is_found+in_ok-push, else-not-is_found}

pub seek-place-requires-clause-passed : goal.seek-place-requires-clause-passed
seek-place-requires-clause-passed c = passed_before _ c.args.newer.now c.loop-i.i c.at-member.result.now c.loop-i.invariant.passed c.at-member.ensures.value

pub loop-i-preserved : goal.loop-i-preserved
loop-i-preserved c = record {
  within = c.seek-place.ensures.place.within;
  passed = apart_more c.args.old.now c.args.newer.now c.loop-i.i c.seek-place.result.index c.seek-place.result.past c.at-member.result.now c.requires.newer
      c.at-member.ensures.value c.seek-place.ensures.place;
  added = elim c.if-not-is_found.branch [
    | then-not-is_found+in_ok-push w ↦
        w.members-is ∙ w.in_ok-push.ensures.ok ∙ ap (λ members. members ++ w.prefix_of.result ∷ []) c.loop-i.invariant.added
        ∙ ap (λ (prefix : List ℕ). added_members c.args.old.now (take c.loop-i.i c.args.newer.now) ++ prefix ∷ []) w.prefix_of.ensures
        ∙ sym (added_more_missed c.args.old.now c.args.newer.now c.loop-i.i c.seek-place.result.index c.seek-place.result.past c.at-member.result.now c.at-member.ensures.value
        c.seek-place.ensures.place (missed_from_test c.is_found.result _ _ c.is_found.ensures w.if-not-is_found.true))
    | else-not-is_found w ↦
        w.members-is ∙ c.loop-i.invariant.added
        ∙ sym (added_more_found c.args.old.now c.args.newer.now c.loop-i.i c.seek-place.result.index c.seek-place.result.past c.at-member.result.now c.at-member.ensures.value
        c.seek-place.ensures.place (c.is_found.ensures.0 w.if-not-is_found.false))
  ];
}
