use Rattle.std.proofs.Common.{arith, ◌∙◌, sym}
use Rattle.list_versions.proofs.Locating.{before_upto, less_from_test, not_before_at}
use Rattle.list_versions.proofs.places.first_at.Goals as goal

pub loop-low-preserved-then-eq : goal.loop-low-preserved-then-eq
loop-low-preserved-then-eq c = record {
  order = omega (arith, c.loop-low-test.true);
  within = c.loop-low.invariant.within;
  before = before_upto c.args.set.now c.args.prefix.now _ c.at.result c.len-high.ensures.rising c.at.ensures (sym c.cmp.ensures ∙ less_from_test c.cmp.result (sym c.eq.ensures ∙ c.if-eq.true));
  here = c.loop-low.invariant.here;
}

pub loop-low-preserved : goal.loop-low-preserved
loop-low-preserved c = record {
  order = omega arith;
  within = omega (arith, c.loop-low-test.true, c.loop-low.invariant.within);
  before = c.loop-low.invariant.before;
  here = λ _. not_before_at c.args.set.now c.args.prefix.now _ c.at.result c.cmp.result c.at.ensures c.cmp.ensures (sym c.eq.ensures ∙ c.if-eq.false);
}
