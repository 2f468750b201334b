use Rattle.sb_outside.specs.declared.links.Kind.TheVariants.{Find}
use Rattle.find_sessions.proofs.AskingFacts.{on_err, held_so_far}
use Rattle.find_sessions.proofs.asking.end_find_session.Goals as goal

pub returns-clause-asked : goal.returns-clause-asked
returns-clause-asked g c = λ waits now target body start opens. record {
  begun = c.in_ok-closed.field-0.begun;
  outcome = c.in_ok-closed.field-0.answer;
  holds = c.in_ok-closed.ensures.held waits now target Find body start opens;
  answers_it = c.in_ok-answer.ensures.answer;
}

pub returns-in_err-answer-clause-refused : goal.returns-in_err-answer-clause-refused
returns-in_err-answer-clause-refused g c = λ waits now target body start opens.
    on_err _ c.from_residual-in_err-answer.result
    (held_so_far waits now target body c.args.need_digest start _ c.in_ok-closed.field-0 (c.in_ok-closed.ensures.held waits now target Find body start opens))
