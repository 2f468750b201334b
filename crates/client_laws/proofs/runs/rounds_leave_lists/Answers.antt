use Rattle.client_laws.proofs.Unchanged.{leaves_alone}
use Rattle.client_laws.proofs.runs.rounds_leave_lists.Goals as goal

pub returns : goal.returns
returns c = leaves_alone (λ a b same. (c.names_go_by_their_codes.ensures.same a b).0 same)
