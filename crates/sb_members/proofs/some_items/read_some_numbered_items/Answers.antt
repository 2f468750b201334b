use Rattle.std.proofs.Common.{arith}
use Rattle.sb_members.proofs.ReadUpTo.{clear_on}
use Rattle.sb_members.proofs.SomesUpTo.{some_on, some_ends}
use Rattle.sb_members.proofs.some_items.read_some_numbered_items.Goals as goal

pub loop-i-preserved : goal.loop-i-preserved
loop-i-preserved g c = record {
  reads =
      some_on g.R.ReadSome.Reads c.args.items.now c.loop-i.i c.loop-i.found c.push_some.new.found c.index-items-i.result c.in-Ok.value (omega arith) c.index-items-i.is
      c.in-Ok.ensures.ok c.in_ok-push_some-in-Ok.ensures c.loop-i.invariant.reads;
  clean =
      clear_on g.R.ReadSome.fault c.args.items.now c.loop-i.i c.index-items-i.result (omega arith) c.index-items-i.is c.in-Ok.ensures.clean
      c.loop-i.invariant.clean;
}

pub returns-clause-ok : goal.returns-clause-ok
returns-clause-ok g c =
    some_ends g.R.ReadSome.Reads c.args.items.now c.loop-i.i c.loop-i.found (omega arith) c.loop-i.invariant.reads
