use Rattle.timed_sessions.proofs.Waits.{failed}
use Rattle.timed_sessions.proofs.settling.settle.Goals as goal

pub returns-in-None : goal.returns-in-None
returns-in-None g c = rw c.in-None.is (failed c.args.waits.now _ c.args.closed c.word.result _ _ c.failed.ensures c.word.ensures)
