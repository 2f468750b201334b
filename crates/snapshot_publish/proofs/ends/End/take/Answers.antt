use Rattle.snapshot_publish.proofs.Steps.{looks}
use Rattle.snapshot_publish.proofs.ends.End.take.Goals as goal

pub try_pop_as-requires-clause-rule : goal.try_pop_as-requires-clause-rule
try_pop_as-requires-clause-rule c = looks _ _
