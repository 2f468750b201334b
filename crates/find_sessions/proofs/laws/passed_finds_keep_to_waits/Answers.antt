use Rattle.find_sessions.proofs.PassingFacts.{keep_to_waits}
use Rattle.find_sessions.proofs.laws.passed_finds_keep_to_waits.Goals as goal

pub returns : goal.returns
returns c = keep_to_waits
