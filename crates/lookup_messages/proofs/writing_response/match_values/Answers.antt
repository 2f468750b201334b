use Rattle.std.proofs.Common.{arith}
use Rattle.lookup_messages.specs.Ranges.{IsLookupMatchInRange}
use Rattle.lookup_messages.specs.Writing.{lookup_match_written}
use Rattle.lookup_messages.proofs.WrittenLists.{written_more, all_more}
use Rattle.lookup_messages.proofs.writing_response.match_values.Goals as goal

pub loop-found-preserved : goal.loop-found-preserved
loop-found-preserved c = record {
  values =
      written_more lookup_match_written c.args.matches.now c.loop-found.found-index c.found-item.result c.loop-found.values.items c.push.new.self.items c.in_ok-match_value.field-0 (omega arith) c.found-item.is
      c.in_ok-push.ensures.items c.loop-found.invariant.values c.in_ok-match_value.ensures.value;
  range =
      all_more IsLookupMatchInRange c.args.matches.now c.loop-found.found-index c.found-item.result (omega arith) c.found-item.is
      c.loop-found.invariant.range c.in_ok-match_value.ensures.range;
}
