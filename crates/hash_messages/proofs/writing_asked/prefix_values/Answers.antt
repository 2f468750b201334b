use Rattle.std.proofs.Common.{arith}
use Rattle.hash_messages.specs.Ranges.{IsPrefix}
use Rattle.hash_messages.specs.Writing.{prefix_written}
use Rattle.hash_messages.proofs.WrittenLists.{written_more, all_more}
use Rattle.hash_messages.proofs.writing_asked.prefix_values.Goals as goal

pub loop-prefix-preserved : goal.loop-prefix-preserved
loop-prefix-preserved c = record {
  values =
      written_more prefix_written c.args.prefixes.now c.loop-prefix.prefix-index c.prefix-item.result c.loop-prefix.values.items c.push.new.self.items c.in_ok-prefix_value.field-0 (omega arith) c.prefix-item.is
      c.in_ok-push.ensures.items c.loop-prefix.invariant.values c.in_ok-prefix_value.ensures.value;
  range =
      all_more IsPrefix c.args.prefixes.now c.loop-prefix.prefix-index c.prefix-item.result (omega arith) c.prefix-item.is
      c.loop-prefix.invariant.range c.in_ok-prefix_value.ensures.range;
}
