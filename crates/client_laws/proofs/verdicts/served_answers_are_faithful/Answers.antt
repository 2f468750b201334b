use Rattle.client_laws.proofs.Answers.{served_is_faithful}
use Rattle.client_laws.proofs.verdicts.served_answers_are_faithful.Goals as goal

pub returns : goal.returns
returns c history wait cache negative asked list prefix hashes declared list_asked prefix_asked agree =
    served_is_faithful history wait cache negative asked (c.answers_match_what_is_asked.ensures.matches history cache asked) c.names_go_by_their_codes.ensures.same
    list prefix hashes declared list_asked prefix_asked agree
