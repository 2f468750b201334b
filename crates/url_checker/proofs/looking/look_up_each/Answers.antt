use Rattle.url_checker.proofs.LookFacts.{looked_more, lookups_more}
use Rattle.url_checker.proofs.looking.look_up_each.Goals as goal

pub loop-hit-preserved : goal.loop-hit-preserved
loop-hit-preserved c =
    let names = c.names_go_by_their_codes.ensures.same in
    record {
      looked = looked_more names c.args.cache.now c.loop-hit.cache c.args.now c.args.hits.now c.loop-hit.hit-index c.hit-item.result c.loop-hit-test.true c.hit-item.is c.loop-hit.invariant.pairs
          c.look_up.result c.loop-hit.looked c.push.new.self c.look_up.ensures.looked c.loop-hit.invariant.looked c.in_ok-push.ensures.ok;
      pairs = lookups_more names c.args.cache.now c.loop-hit.cache c.args.now c.args.hits.now c.loop-hit.hit-index c.hit-item.result c.loop-hit-test.true c.hit-item.is c.loop-hit.invariant.pairs
          c.look_up.new.cache c.look_up.ensures.pairs;
    }
