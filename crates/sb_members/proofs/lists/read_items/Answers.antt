use Rattle.std.proofs.Common.{arith}
use Rattle.sb_members.proofs.ReadUpTo.{read_ends}
use Rattle.sb_members.proofs.lists.read_items.Goals as goal

pub returns-clause-ok : goal.returns-clause-ok
returns-clause-ok g c =
    read_ends g.R.ReadItem.Reads c.args.items.now c.loop-item.item-index c.loop-item.found (omega arith) c.loop-item.invariant.reads
