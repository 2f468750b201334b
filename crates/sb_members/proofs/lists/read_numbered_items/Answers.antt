use Rattle.std.proofs.Common.{arith}
use Rattle.sb_members.proofs.ReadUpTo.{read_ends}
use Rattle.sb_members.proofs.lists.read_numbered_items.Goals as goal

pub returns-clause-ok : goal.returns-clause-ok
returns-clause-ok g c =
    read_ends g.R.ReadItem.Reads c.args.items.now c.loop-i.i c.loop-i.found (omega arith) c.loop-i.invariant.reads
