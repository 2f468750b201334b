use Rattle.std.proofs.Common.{arith}
use Rattle.list_versions.proofs.QuadRows.{from_here, from_none, low_more}
use Rattle.list_versions.proofs.quads.from_number.Goals as goal

pub returns-then-other-number : goal.returns-then-other-number
returns-then-other-number c = from_here c.args.numbers.now c.loop-i.i c.args.number c.if-other-number.true c.loop-i.invariant

pub loop-i-preserved : goal.loop-i-preserved
loop-i-preserved c = low_more c.args.numbers.now c.loop-i.i c.args.number c.loop-i-test.true c.if-other-number.false c.loop-i.invariant

pub returns : goal.returns
returns c = from_none c.args.numbers.now c.loop-i.i c.args.number c.loop-i-test.false c.loop-i.invariant
