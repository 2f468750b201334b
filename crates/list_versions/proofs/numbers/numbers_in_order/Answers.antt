use Rattle.list_versions.proofs.Numbered.{number_more, tells_more}
use Rattle.list_versions.proofs.numbers.numbers_in_order.Goals as goal

pub loop-quad-preserved : goal.loop-quad-preserved
loop-quad-preserved c = record {
  numbers = number_more c.args.quads.now c.loop-quad.quad-index c.loop-quad.numbers.items c.push.new.self.items c.number_of.result c.loop-quad-test.true c.loop-quad.invariant.numbers c.number_of.ensures.value c.in_ok-push.ensures.items;
  tell = tells_more c.args.quads.now c.loop-quad.quad-index c.loop-quad-test.true c.loop-quad.invariant.tell c.number_of.ensures.tells;
}
