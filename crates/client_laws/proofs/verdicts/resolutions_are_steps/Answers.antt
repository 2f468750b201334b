use Rattle.client_laws.proofs.Steps.{resolution_steps}
use Rattle.client_laws.proofs.verdicts.resolutions_are_steps.Goals as goal

pub returns : goal.returns
returns c = resolution_steps
