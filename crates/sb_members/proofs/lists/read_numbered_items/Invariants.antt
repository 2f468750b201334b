use Rattle.std.proofs.Common.{◌≡◌, length, All}
use Rattle.sb_members.proofs.ReadUpTo.{IsReadUpTo, IsClearUpTo}
use Rattle.sb_members.proofs.lists.read_numbered_items.Given as goal

abbrev pub invariant-loop-i : goal.invariant-loop-i
invariant-loop-i g l = record {
  reads : IsReadUpTo g.R.ReadItem.Reads l.items l.i l.found;
  keeps : All g.R.ReadItem.Keeps l.found;
  clean : IsClearUpTo g.R.ReadItem.fault l.items l.i;
  count : length l.found ≡ l.i;
}
