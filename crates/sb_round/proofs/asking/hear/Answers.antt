use Rattle.sb_outside.specs.declared.links.Kind.TheVariants.{Update}
use Rattle.sb_round.proofs.RoundFacts.{heard, heard_part, heard_whole, err_says}
use Rattle.sb_round.proofs.asking.hear.Goals as goal

pub returns-clause-asked : goal.returns-clause-asked
returns-clause-asked g c = λ waits target body start opens.
    heard waits target body c.args.need_digest start _ _ c.args.opening c.in_ok-begun.field-0 c.in_ok-answer.answer opens
    (λ read between is. c.in_ok-begun.ensures.held waits read target Update body between is) c.in_ok-answer.ensures.answer

pub returns-in_err-begun-clause-refused : goal.returns-in_err-begun-clause-refused
returns-in_err-begun-clause-refused g c = λ waits target body start opens.
    err_says c.from_residual.result _
    (heard_part waits target body start _ _ c.args.opening opens
    (λ read between is. c.in_err-begun.ensures.refused waits read target Update body between is))

pub returns-in_err-answer-clause-refused : goal.returns-in_err-answer-clause-refused
returns-in_err-answer-clause-refused g c = λ waits target body start opens.
    err_says c.from_residual-in_err-answer.result _
    (heard_whole waits target body c.args.need_digest start _ _ c.args.opening c.in_ok-begun.field-0 opens
    (λ read between is. c.in_ok-begun.ensures.held waits read target Update body between is))
