use Rattle.update_replay.proofs.ExampleRun.{example_formed, example_naming, example_honest, example_apart, example_installed}
use Rattle.update_replay.proofs.laws.premises_are_met.Goals as goal

pub returns-clause-formed : goal.returns-clause-formed
returns-clause-formed c = example_formed

pub returns-clause-naming : goal.returns-clause-naming
returns-clause-naming c = example_naming

pub returns-clause-honest : goal.returns-clause-honest
returns-clause-honest c = example_honest

pub returns-clause-apart : goal.returns-clause-apart
returns-clause-apart c = example_apart c.names_go_by_their_codes.ensures.same

pub returns-clause-installed : goal.returns-clause-installed
returns-clause-installed c = example_installed
