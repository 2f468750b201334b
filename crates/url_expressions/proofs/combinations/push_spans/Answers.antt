use Rattle.url_expressions.proofs.SpanFacts.{pieces_more, within_more}
use Rattle.url_expressions.proofs.combinations.push_spans.Goals as goal

pub loop-path_len-preserved : goal.loop-path_len-preserved
loop-path_len-preserved c =
    let inv = c.loop-path_len.invariant in
    record {
      pieces = λ text. pieces_more text c.args.from c.args.path_at c.args.path_lens.now c.loop-path_len.path_len-index c.args.all.now c.loop-path_len.all _
          c.requires.in_order c.loop-path_len-test.true c.in_ok-push.ensures.ok (inv.pieces text);
      within = λ old. within_more c.args.whole c.args.from c.args.path_at c.args.path_lens.now c.loop-path_len.path_len-index c.loop-path_len.all _
          c.requires.in_order c.loop-path_len-test.true c.requires.fit c.in_ok-push.ensures.ok (inv.within old);
    }
