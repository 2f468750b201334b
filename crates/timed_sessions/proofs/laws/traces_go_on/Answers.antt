use Rattle.timed_sessions.proofs.Traces.{begins_trace, goes_on}
use Rattle.timed_sessions.proofs.laws.traces_go_on.Goals as goal

pub returns : goal.returns
returns c = record { none = begins_trace; one_more = goes_on }
