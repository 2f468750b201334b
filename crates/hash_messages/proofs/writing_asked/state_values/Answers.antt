use Rattle.std.proofs.Common.{arith}
use Rattle.base64.specs.GeneralPurpose.{IsBytes}
use Rattle.hash_messages.specs.Writing.{state_written}
use Rattle.hash_messages.proofs.WrittenLists.{written_more, all_more}
use Rattle.hash_messages.proofs.writing_asked.state_values.Goals as goal

pub loop-state-preserved : goal.loop-state-preserved
loop-state-preserved c = record {
  values =
      written_more state_written c.args.states.now c.loop-state.state-index c.state-item.result c.loop-state.values.items c.push.new.self.items c.in_ok-state_value.field-0 (omega arith) c.state-item.is
      c.in_ok-push.ensures.items c.loop-state.invariant.values c.in_ok-state_value.ensures.value;
  range =
      all_more IsBytes c.args.states.now c.loop-state.state-index c.state-item.result (omega arith) c.state-item.is
      c.loop-state.invariant.range c.in_ok-state_value.ensures.range;
}
