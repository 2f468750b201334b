use Rattle.sb_round.proofs.RunOfRounds.{keep_to_waits}
use Rattle.sb_round.proofs.laws.rounds_keep_to_waits.Goals as goal

pub returns : goal.returns
returns c = keep_to_waits
