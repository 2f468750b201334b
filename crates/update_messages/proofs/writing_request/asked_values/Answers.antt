use Rattle.std.proofs.Common.{arith}
use Rattle.update_messages.specs.Ranges.{IsAskedInRange}
use Rattle.update_messages.specs.Writing.{asked_written}
use Rattle.update_messages.proofs.WrittenLists.{written_more, all_more}
use Rattle.update_messages.proofs.writing_request.asked_values.Goals as goal

pub loop-list-preserved : goal.loop-list-preserved
loop-list-preserved c = record {
  values =
      written_more asked_written c.args.lists.now c.loop-list.list-index c.list-item.result c.loop-list.values.items c.push.new.self.items c.in_ok-asked_value.field-0 (omega arith) c.list-item.is
      c.in_ok-push.ensures.items c.loop-list.invariant.values c.in_ok-asked_value.ensures.value;
  range =
      all_more IsAskedInRange c.args.lists.now c.loop-list.list-index c.list-item.result (omega arith) c.list-item.is
      c.loop-list.invariant.range c.in_ok-asked_value.ensures.range;
}
