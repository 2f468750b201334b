use Rattle.http_edge.proofs.Written.{passes_as_written}
use Rattle.http_edge.proofs.laws.passes.Goals as goal

pub returns : goal.returns
returns c = passes_as_written
