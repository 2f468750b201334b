use Rattle.sb_round.proofs.RunOfRounds.{begins_rounds, goes_on}
use Rattle.sb_round.proofs.laws.rounds_go_on.Goals as goal

pub returns : goal.returns
returns c = record { none = begins_rounds c.traces_go_on.ensures.none; one_more = goes_on c.traces_go_on.ensures.one_more }
