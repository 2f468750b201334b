use Rattle.std.proofs.Common.{arith}
use Rattle.sb_members.specs.Ranges.{IsText}
use Rattle.lookup_messages.specs.Writing.{url_written}
use Rattle.lookup_messages.proofs.WrittenLists.{written_more, all_more}
use Rattle.lookup_messages.proofs.writing_urls.url_values.Goals as goal

pub loop-url-preserved : goal.loop-url-preserved
loop-url-preserved c = record {
  values =
      written_more url_written c.args.urls.now c.loop-url.url-index c.url-item.result c.loop-url.values.items c.push.new.self.items c.in_ok-url_value.field-0 (omega arith) c.url-item.is
      c.in_ok-push.ensures.items c.loop-url.invariant.values c.in_ok-url_value.ensures.value;
  range =
      all_more IsText c.args.urls.now c.loop-url.url-index c.url-item.result (omega arith) c.url-item.is
      c.loop-url.invariant.range c.in_ok-url_value.ensures.range;
}
