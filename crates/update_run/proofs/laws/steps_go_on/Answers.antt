use Rattle.update_run.proofs.OneByOne.{begins_steps, goes_on_writing, goes_on_taking}
use Rattle.update_run.proofs.laws.steps_go_on.Goals as goal

pub returns : goal.returns
returns c = record { none = begins_steps c.rounds_go_on.ensures.none; written = goes_on_writing; one_more = goes_on_taking c.rounds_go_on.ensures.one_more }
