use Rattle.std.proofs.Common.{arith, ◌∙◌, sym}
use Rattle.prefix_set.proofs.SearchFacts.{before_upto, less_from_test, not_before_at}
use Rattle.prefix_set.proofs.search.first_not_before.Goals as goal

pub loop-low-preserved-then-eq : goal.loop-low-preserved-then-eq
loop-low-preserved-then-eq c = record {
  from = omega arith;
  order = omega arith;
  to = omega arith;
  below = before_upto c.args.members.now c.args.prefix.now _ c.at.result.now c.requires.rising c.at.ensures.value
      (sym c.cmp.ensures ∙ less_from_test c.cmp.result (sym c.eq.ensures ∙ c.if-eq.true));
  above = c.loop-low.invariant.above;
}

pub loop-low-preserved : goal.loop-low-preserved
loop-low-preserved c = record {
  from = omega arith;
  order = omega arith;
  to = omega arith;
  below = c.loop-low.invariant.below;
  above = λ _. not_before_at c.args.members.now c.args.prefix.now _ c.at.result.now c.cmp.result c.at.ensures.value c.cmp.ensures
      (sym c.eq.ensures ∙ c.if-eq.false);
}
