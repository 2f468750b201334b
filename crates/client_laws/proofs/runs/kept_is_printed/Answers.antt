use Rattle.client_laws.proofs.Kept.{kept_printed}
use Rattle.client_laws.proofs.runs.kept_is_printed.Goals as goal

pub returns : goal.returns
returns c = kept_printed c.rounds_leave_lists.ensures (λ a b same. (c.names_go_by_their_codes.ensures.same a b).0 same)
