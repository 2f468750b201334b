use Rattle.sb_round.proofs.RoundFacts.{made_if, asked_part}
use Rattle.sb_round.specs.Round.{round_body_asked, round_state}
use Rattle.sb_round.proofs.running.end_round.Goals as goal

pub returns-clause-made : goal.returns-clause-made
returns-clause-made g c = λ options target start opens.
    made_if (round_state c.args.lists.now c.args.waits.now) _ options target c.args.need_digest _ _ _ c.in_ok-asked.asked c.take_answer.result
    (c.in_ok-asked.ensures.asked c.args.waits.now target _ start opens) c.take_answer.ensures.taken

pub returns-clause-broken_off : goal.returns-clause-broken_off
returns-clause-broken_off g c = λ options target start opens.
    asked_part c.args.waits.now target (round_body_asked c.args.lists.now options) c.args.need_digest start.told _ _ c.in_ok-asked.asked c.take_answer.result
    (c.in_ok-asked.ensures.asked c.args.waits.now target _ start opens) c.take_answer.ensures.untouched
