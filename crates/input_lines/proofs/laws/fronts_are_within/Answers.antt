use Rattle.input_lines.proofs.Fronts.{front_within, not_past}
use Rattle.input_lines.proofs.laws.fronts_are_within.Goals as goal

pub returns-clause-fronts : goal.returns-clause-fronts
returns-clause-fronts c = front_within

pub returns-clause-told : goal.returns-clause-told
returns-clause-told c = not_past
