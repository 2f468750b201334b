use Rattle.update_messages.specs.Faults.{fault_of_name}
use Rattle.update_messages.proofs.Lists.{IsCleanUpTo}
use Rattle.update_messages.proofs.Compressions.{TakesUpTo}
use Rattle.update_messages.proofs.reading_items.compressions.Given as goal

abbrev pub invariant-loop-item : goal.invariant-loop-item
invariant-loop-item l = record {
  takes : TakesUpTo l.items l.item-index l.raw l.rice;
  clean : IsCleanUpTo fault_of_name l.items l.item-index;
}
