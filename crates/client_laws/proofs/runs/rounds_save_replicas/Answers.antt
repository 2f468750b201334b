use Rattle.client_laws.proofs.Rounds.{saves_replicas}
use Rattle.client_laws.proofs.runs.rounds_save_replicas.Goals as goal

pub returns : goal.returns
returns c = saves_replicas c.replicas_stay.ensures c.stores_begin_runs.ensures (λ a b same. (c.names_go_by_their_codes.ensures.same a b).0 same)
