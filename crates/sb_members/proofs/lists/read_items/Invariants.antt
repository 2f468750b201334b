use Rattle.std.proofs.Common.{All}
use Rattle.sb_members.proofs.ReadUpTo.{IsReadUpTo, IsCleanUpTo}
use Rattle.sb_members.proofs.lists.read_items.Given as goal

abbrev pub invariant-loop-item : goal.invariant-loop-item
invariant-loop-item g l = record {
  reads : IsReadUpTo g.R.ReadItem.Reads l.items l.item-index l.found;
  keeps : All g.R.ReadItem.Keeps l.found;
  clean : IsCleanUpTo g.R.ReadItem.fault l.items l.item-index;
}
