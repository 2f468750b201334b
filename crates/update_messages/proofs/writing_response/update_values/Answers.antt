use Rattle.std.proofs.Common.{arith}
use Rattle.update_messages.specs.Ranges.{IsUpdateInRange}
use Rattle.update_messages.specs.Writing.{update_written}
use Rattle.update_messages.proofs.WrittenLists.{written_more, all_more}
use Rattle.update_messages.proofs.writing_response.update_values.Goals as goal

pub loop-update-preserved : goal.loop-update-preserved
loop-update-preserved c = record {
  values =
      written_more update_written c.args.updates.now c.loop-update.update-index c.update-item.result c.loop-update.values.items c.push.new.self.items c.in_ok-update_value.field-0 (omega arith) c.update-item.is
      c.in_ok-push.ensures.items c.loop-update.invariant.values c.in_ok-update_value.ensures.value;
  range =
      all_more IsUpdateInRange c.args.updates.now c.loop-update.update-index c.update-item.result (omega arith) c.update-item.is
      c.loop-update.invariant.range c.in_ok-update_value.ensures.range;
}
