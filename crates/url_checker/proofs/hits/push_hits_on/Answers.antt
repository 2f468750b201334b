use Rattle.url_checker.specs.Hits.{hits_with}
use Rattle.url_checker.proofs.Steps.{appended_more}
use Rattle.url_checker.proofs.hits.push_hits_on.Goals as goal

pub loop-hash-preserved : goal.loop-hash-preserved
loop-hash-preserved c =
    appended_more (hits_with c.args.held.now) c.args.hashes.now c.loop-hash.hash-index _ c.args.hits.now c.loop-hash.hits c.push_hits.new.hits c.loop-hash-test.true c.loop-hash.invariant c.in_ok-push_hits.ensures

pub push_hits-requires : goal.push_hits-requires
push_hits-requires c = record {
  marked = c.requires.marked;
  past = c.requires.past;
  at_least = c.requires.at_least;
  at_most = c.requires.at_most;
  whole = c.requires.whole c.loop-hash.hash-index _ c.loop-hash-test.true;
}
