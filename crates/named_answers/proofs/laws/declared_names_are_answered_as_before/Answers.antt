use Rattle.named_answers.proofs.Finds.{declared_alone, found_as_before}
use Rattle.named_answers.proofs.Items.{answer_as_before, if_declared, if_none_general}
use Rattle.named_answers.proofs.laws.declared_names_are_answered_as_before.Goals as goal

pub returns-clause-fetch : goal.returns-clause-fetch
returns-clause-fetch c = λ history token_at wait request declared. answer_as_before history token_at wait request (if_declared history request.items declared)

pub returns-clause-find : goal.returns-clause-find
returns-clause-find c = λ history wait cache negative asked declared. found_as_before history cache asked declared wait negative

pub returns-clause-no_fetch : goal.returns-clause-no_fetch
returns-clause-no_fetch c = λ history token_at wait request none. answer_as_before history token_at wait request (if_none_general history request.items none)

pub returns-clause-no_find : goal.returns-clause-no_find
returns-clause-no_find c = λ history wait cache negative asked none.
    found_as_before history cache asked (λ name asks answered. declared_alone history none name answered) wait negative
