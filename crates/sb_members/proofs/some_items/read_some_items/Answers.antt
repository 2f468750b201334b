use Rattle.std.proofs.Common.{arith}
use Rattle.sb_members.proofs.ReadUpTo.{clean_on}
use Rattle.sb_members.proofs.SomesUpTo.{some_on, some_ends}
use Rattle.sb_members.proofs.some_items.read_some_items.Goals as goal

pub loop-item-preserved : goal.loop-item-preserved
loop-item-preserved g c = record {
  reads =
      some_on g.R.ReadSome.Reads c.args.items.now c.loop-item.item-index c.loop-item.found c.push_some.new.found c.item-item.result c.in_ok-read_some.field-0 (omega arith) c.item-item.is
      c.in_ok-read_some.ensures.ok c.in_ok-push_some.ensures c.loop-item.invariant.reads;
  clean =
      clean_on g.R.ReadSome.fault c.args.items.now c.loop-item.item-index c.item-item.result (omega arith) c.item-item.is c.in_ok-read_some.ensures.clean
      c.loop-item.invariant.clean;
}

pub returns-clause-ok : goal.returns-clause-ok
returns-clause-ok g c =
    some_ends g.R.ReadSome.Reads c.args.items.now c.loop-item.item-index c.loop-item.found (omega arith) c.loop-item.invariant.reads
