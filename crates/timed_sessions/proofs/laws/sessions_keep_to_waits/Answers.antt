use Rattle.timed_sessions.proofs.Waits.{goes_on_waiting}
use Rattle.timed_sessions.proofs.laws.sessions_keep_to_waits.Goals as goal

pub returns : goal.returns
returns c = goes_on_waiting
