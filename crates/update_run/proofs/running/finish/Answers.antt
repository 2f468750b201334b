use Rattle.update_run.proofs.Ways.{nothing_taken, some_back}
use Rattle.update_run.proofs.Endings.{lines_some}
use Rattle.update_run.proofs.running.finish.Goals as goal

pub returns-in-Err-clause-stopped : goal.returns-in-Err-clause-stopped
returns-in-Err-clause-stopped g c = nothing_taken _ _ (some_back c.args.page.now _ (lines_some c.args.lists.now c.requires))
