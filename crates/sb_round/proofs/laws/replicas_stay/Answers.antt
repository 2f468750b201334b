use Rattle.sb_round.proofs.Replicas.{keeps_replicas}
use Rattle.sb_round.proofs.laws.replicas_stay.Goals as goal

pub returns : goal.returns
returns c = keeps_replicas
