use Rattle.client_laws.proofs.Steps.{look_steps, answer_steps}
use Rattle.client_laws.proofs.shared.looks_and_answers_are_steps.Goals as goal

pub returns-clause-looked : goal.returns-clause-looked
returns-clause-looked c = look_steps

pub returns-clause-answered : goal.returns-clause-answered
returns-clause-answered c = answer_steps
