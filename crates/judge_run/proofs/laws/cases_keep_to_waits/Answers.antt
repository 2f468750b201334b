use Rattle.judge_run.proofs.Sessions.{keep_to_waits}
use Rattle.judge_run.proofs.laws.cases_keep_to_waits.Goals as goal

pub returns : goal.returns
returns c = keep_to_waits
