use Rattle.update_run.proofs.Saves.{saved_nothing, saved_both}
use Rattle.update_run.proofs.laws.saves_go_on.Goals as goal

pub returns : goal.returns
returns c = record { none = saved_nothing; more = saved_both }
