use Rattle.std.proofs.Common.{arith}
use Rattle.update_messages.specs.Ranges.{IsRemovalOfBytes}
use Rattle.update_messages.specs.Writing.{removal_written}
use Rattle.update_messages.proofs.WrittenLists.{written_more, all_more}
use Rattle.update_messages.proofs.writing_response.removal_values.Goals as goal

pub loop-set-preserved : goal.loop-set-preserved
loop-set-preserved c = record {
  values =
      written_more removal_written c.args.sets.now c.loop-set.set-index c.set-item.result c.loop-set.values.items c.push.new.self.items c.in_ok-removal_value.field-0 (omega arith) c.set-item.is
      c.in_ok-push.ensures.items c.loop-set.invariant.values c.in_ok-removal_value.ensures.value;
  range =
      all_more IsRemovalOfBytes c.args.sets.now c.loop-set.set-index c.set-item.result (omega arith) c.set-item.is
      c.loop-set.invariant.range c.in_ok-removal_value.ensures.range;
}
