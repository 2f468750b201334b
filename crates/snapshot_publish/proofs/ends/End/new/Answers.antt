use Rattle.snapshot_publish.proofs.Steps.{begins}
use Rattle.snapshot_publish.proofs.ends.End.new.Goals as goal

pub ruled-requires-clause-rule : goal.ruled-requires-clause-rule
ruled-requires-clause-rule c = begins
