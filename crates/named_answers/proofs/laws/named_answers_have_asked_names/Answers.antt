use Rattle.named_answers.proofs.Asked.{asked_updated, match_named, named_matched, update_asked}
use Rattle.named_answers.proofs.laws.named_answers_have_asked_names.Goals as goal

pub returns-clause-updates : goal.returns-clause-updates
returns-clause-updates c = λ history token_at wait request update. (update_asked history token_at request update, asked_updated history token_at request update)

pub returns-clause-matches : goal.returns-clause-matches
returns-clause-matches c = λ history cache asked found.
    let answered = c.answered_names_are_those_of_lists.ensures.names in
    let members = c.sets_go_by_members.ensures.members in
    (match_named answered members history cache asked found, named_matched answered members history cache asked found)
