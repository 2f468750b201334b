use Rattle.update_messages.proofs.NamedItems.{IsCountUpTo}
use Rattle.update_messages.proofs.reading_items.count_named.Given as goal

abbrev pub invariant-loop-item : goal.invariant-loop-item
invariant-loop-item l = IsCountUpTo l.items l.item-index l.count
