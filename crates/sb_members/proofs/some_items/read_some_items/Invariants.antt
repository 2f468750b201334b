use Rattle.sb_members.proofs.ReadUpTo.{IsCleanUpTo}
use Rattle.sb_members.proofs.SomesUpTo.{IsSomeUpTo}
use Rattle.sb_members.proofs.some_items.read_some_items.Given as goal

abbrev pub invariant-loop-item : goal.invariant-loop-item
invariant-loop-item g l = record {
  reads : IsSomeUpTo g.R.ReadSome.Reads l.items l.item-index l.found;
  clean : IsCleanUpTo g.R.ReadSome.fault l.items l.item-index;
}
