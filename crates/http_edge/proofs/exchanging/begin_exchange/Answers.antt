use Rattle.std.proofs.Common.{rules}
use Rattle.http_edge.proofs.TalkFacts.{part_closed}
use Rattle.http_edge.proofs.exchanging.begin_exchange.Goals as goal

pub returns-in-Err-clause-refused : goal.returns-in-Err-clause-refused
returns-in-Err-clause-refused g c = (
  c.now-ended.result,
  (λ need. part_closed c.args.target.now c.args.kind c.args.body.now c.args.at need c.now-ended.result _ _ _ (c.in-Err.ensures.refused need) c.close.ensures.closed),
  c.now-ended.ensures.told,
  search rules,
  search rules,
)
