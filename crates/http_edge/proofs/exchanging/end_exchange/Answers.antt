use Rattle.std.proofs.Common.{rules}
use Rattle.http_edge.proofs.SessionSteps.{err_says}
use Rattle.http_edge.proofs.TalkFacts.{session_closed, part_closed}
use Rattle.http_edge.proofs.exchanging.end_exchange.Goals as goal

pub returns-clause-session : goal.returns-clause-session
returns-clause-session g c = λ target kind body at start opens.
    session_closed target kind body at c.args.need_digest c.now-ended.result _ _ _ c.in_ok-answer.answer
    (c.in_ok-answer.ensures.answer target kind body at start opens) c.close.ensures.closed

pub returns-in_err-answer-clause-refused : goal.returns-in_err-answer-clause-refused
returns-in_err-answer-clause-refused g c = err_says c.from_residual.result _ (
  c.now-ended.result,
  (λ target kind body at start opens.
      part_closed target kind body at c.args.need_digest c.now-ended.result _ _ _ (c.in_err-answer.ensures.refused target kind body at start opens) c.close.ensures.closed),
  c.now-ended.ensures.told,
  search rules,
  search rules,
)
