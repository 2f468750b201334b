use Rattle.lookup_messages.specs.Lookups.{lookup_answer}
use Rattle.lookup_messages.specs.Writing.{lookup_response_written, spelling_of_lookup_response}
use Rattle.both_ends_laws.proofs.LookupMatches.{lookup_responses_sparse, lookup_answers_sparse}
use Rattle.both_ends_laws.proofs.Sparse.{clear_text}
use Rattle.both_ends_laws.proofs.density.lookup_answers_are_not_too_dense.Goals as goal

pub returns-clause-any : goal.returns-clause-any
unfolding spelling_of_lookup_response
returns-clause-any c message few =
    let counted = c.written_texts_are_counted.ensures in
    clear_text counted.counts counted.clear (lookup_response_written message) (lookup_responses_sparse message few)

pub returns-clause-answered : goal.returns-clause-answered
unfolding spelling_of_lookup_response
returns-clause-answered c has lists cache asked few urls =
    let counted = c.written_texts_are_counted.ensures in
    clear_text counted.counts counted.clear (lookup_response_written (lookup_answer has lists cache asked)) (lookup_answers_sparse has lists cache asked few urls)
