use Rattle.answering_lists.specs.Lists.{is_answered}
use Rattle.answering_lists.proofs.NamesInOrder.{names_rise, name_passes, name_there}
use Rattle.answering_lists.proofs.laws.answered_names_are_those_of_lists.Goals as goal

pub returns-clause-order : goal.returns-clause-order
returns-clause-order c = λ history. names_rise (is_answered history)

pub returns-clause-names : goal.returns-clause-names
returns-clause-names c = λ history name. (name_passes (is_answered history) name, name_there (is_answered history) name)
