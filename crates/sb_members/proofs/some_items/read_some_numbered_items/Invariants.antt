use Rattle.sb_members.proofs.ReadUpTo.{IsClearUpTo}
use Rattle.sb_members.proofs.SomesUpTo.{IsSomeUpTo}
use Rattle.sb_members.proofs.some_items.read_some_numbered_items.Given as goal

abbrev pub invariant-loop-i : goal.invariant-loop-i
invariant-loop-i g l = record {
  reads : IsSomeUpTo g.R.ReadSome.Reads l.items l.i l.found;
  clean : IsClearUpTo g.R.ReadSome.fault l.items l.i;
}
