use Rattle.std.proofs.Common.{refl}
use Rattle.update_run.proofs.OneByOne.{saved_all}
use Rattle.update_run.proofs.Stopping as stopping
use Rattle.update_run.proofs.laws.steps_save_and_stop.Goals as goal

pub returns-clause-saved : goal.returns-clause-saved
returns-clause-saved c plan number rounds client between client' before mid after refused more so_far takes =
    saved_all plan number rounds client between before mid after client'.lists client'.waits takes.end c.rounds_go_on.ensures.one_more so_far.made takes.made

pub returns-clause-stopped : goal.returns-clause-stopped
returns-clause-stopped c why plan rounds client between before mid after refused few so_far stops =
    stopping.stopped why plan _ rounds client between before mid after refused c.rounds_go_on.ensures.one_more refl few so_far stops
