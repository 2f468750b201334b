use Rattle.snapshot_publish.proofs.Steps.{tells}
use Rattle.snapshot_publish.proofs.ends.End.seat_end.Goals as goal

pub another-pass-requires-clause-rule : goal.another-pass-requires-clause-rule
another-pass-requires-clause-rule c = tells _ _
