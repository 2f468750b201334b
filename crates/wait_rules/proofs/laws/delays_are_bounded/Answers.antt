use Rattle.wait_rules.proofs.Delays.{many_failures}
use Rattle.wait_rules.proofs.laws.delays_are_bounded.Goals as goal

pub returns-clause-many : goal.returns-clause-many
returns-clause-many c = many_failures
