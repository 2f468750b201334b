use Rattle.std.proofs.Common.{arith, refl}
use Rattle.update_messages.specs.Faults.{fault_of_name}
use Rattle.update_messages.proofs.Lists.{clean_on}
use Rattle.update_messages.proofs.Compressions.{takes_on, takes_end}
use Rattle.update_messages.proofs.reading_items.compressions.Goals as goal

pub loop-item-preserved : goal.loop-item-preserved
loop-item-preserved c = record {
  takes =
      takes_on c.in_ok-items.items.now c.loop-item.item-index c.loop-item.raw c.loop-item.rice c.takes-raw.result c.takes-rice.result c.item-item.result
      c.in_ok-name.name.now (omega arith) c.item-item.is c.in_ok-name.ensures.ok c.takes-raw.ensures c.takes-rice.ensures c.loop-item.invariant.takes;
  clean =
      clean_on fault_of_name c.in_ok-items.items.now c.loop-item.item-index c.item-item.result (omega arith) c.item-item.is (rw c.in_ok-name.ensures.ok refl)
      c.loop-item.invariant.clean;
}

pub returns-clause-ok : goal.returns-clause-ok
returns-clause-ok c =
    takes_end _ c.in_ok-items.items.now c.loop-item.item-index c.loop-item.raw c.loop-item.rice (omega arith) c.in_ok-items.ensures.ok c.loop-item.invariant.takes
