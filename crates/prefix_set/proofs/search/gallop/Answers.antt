use Rattle.std.proofs.Common.{arith, ◌∙◌, sym}
use Rattle.prefix_set.proofs.SearchFacts.{before_upto, less_from_test, test_from_not}
use Rattle.prefix_set.proofs.search.gallop.Goals as goal

pub loop-step-preserved : goal.loop-step-preserved
loop-step-preserved c = record {
  from = omega arith;
  within = omega arith;
  forward = omega arith;
  below = before_upto c.args.members.now c.args.prefix.now _ c.at.result.now c.requires.rising c.at.ensures.value
      (sym c.cmp.ensures ∙ less_from_test c.cmp.result (test_from_not _ (sym c.ne.ensures ∙ c.if-ne.false)));
}
