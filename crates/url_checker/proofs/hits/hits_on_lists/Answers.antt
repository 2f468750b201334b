use Rattle.url_checker.specs.Hits.{Marks}
use Rattle.url_checker.proofs.SizeFacts.{item_holds}
use Rattle.url_checker.proofs.hits.hits_on_lists.Goals as goal

pub push_hits_on-requires : goal.push_hits_on-requires
push_hits_on-requires c = record {
  marked = item_holds (Marks c.args.sizes.now) c.args.lists.now c.loop-held.held-index c.held-item.result c.loop-held-test.true c.held-item.is c.requires.marked;
  past = c.past_marks-past.ensures.past;
  at_least = c.past_marks-past.ensures.at_least;
  at_most = c.past_marks-past.ensures.at_most;
  whole = c.requires.whole;
}
