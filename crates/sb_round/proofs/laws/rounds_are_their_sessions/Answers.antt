use Rattle.sb_round.proofs.RunOfRounds.{are_their_sessions}
use Rattle.sb_round.proofs.laws.rounds_are_their_sessions.Goals as goal

pub returns : goal.returns
returns c = are_their_sessions
